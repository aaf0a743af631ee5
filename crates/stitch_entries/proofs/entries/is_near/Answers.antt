-- `is_near` meets its contract. Assumes nothing.
use Rattle.stitch_splits.specs.Splits.{near_last}
use mathlib.Core.Path.{ap}
use lib.Ieee.{lt}
use Rattle.stitch_entries.proofs.entries.is_near.Goals as goal

pub returns : goal.returns
unfolding near_last
returns c = ap (λ x. lt x near_last) c.absolute_f64.ensures
