-- A cell as the code answers it: its value, and whether it was clamped. Assumes nothing.
use Rattle.std.specs.Prelude.{Float}
use Rattle.point_rules.specs.Points.{cell, clamps}
use Rattle.point_cell.specs.declared.CellAnswer.{CellAnswer}

-- the cell of v, and whether it was clamped
abbrev pub cell_told : Float → CellAnswer
cell_told v = record { value = cell v; clamped = clamps v }
