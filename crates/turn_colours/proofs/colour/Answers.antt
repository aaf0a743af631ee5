-- `turn_colours::colour` meets its contract. Assumes nothing.
use Rattle.turn_walk.specs.Kept.{colour_at}
use mathlib.Core.Path.{sym}
use Rattle.turn_colours.proofs.colour.Goals as goal

pub returns : goal.returns
returns c = rw c.colours.ensures (sym (colour_at _ _ _ _ c.requires.inside))
