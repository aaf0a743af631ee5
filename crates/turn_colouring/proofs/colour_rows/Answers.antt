-- `colour_rows` meets its contract. Assumes nothing.
use Rattle.turn_colouring.proofs.ColourLaws.{part_walkable, rows_coloured}
use mathlib.Core.Path.{refl}
use native.Mathlib.Omega.{arith}
use Rattle.turn_colouring.proofs.colour_rows.Goals as goal

pub walk_groups-requires : goal.walk_groups-requires
walk_groups-requires c = part_walkable c.requires refl refl (omega (arith, c.end.ensures)) c.lay_uses.ensures (omega arith)

pub returns : goal.returns
returns c =
    rows_coloured c.requires refl refl (omega (arith, c.end.ensures)) c.lay_uses.ensures (omega arith) c.walk_groups.ensures (omega arith)
