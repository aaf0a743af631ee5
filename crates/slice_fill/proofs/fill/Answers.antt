-- `fill` meets its contract. Assumes nothing.
use Rattle.std.proofs.Common.{rules}
use Rattle.slice_fill.proofs.Filling.{stretch_filled}
use Rattle.slice_fill.proofs.fill.Goals as goal

pub returns : goal.returns
returns c = stretch_filled _ _ _ _ _ _ (search rules) c.min.ensures (search rules)
