-- A cell and a key as the structs for C. Assumes nothing.
use Rattle.std.specs.Prelude.{cond}
use Rattle.point_cell.specs.declared.CellAnswer.{CellAnswer}
use Rattle.point_key.specs.declared.key.KeyAnswer.{KeyAnswer}
use Rattle.cad_answers.specs.declared.naming.CadCell.{CadCell}
use Rattle.cad_answers.specs.declared.naming.CadKey.{CadKey}

-- a cell, and 1 if it was clamped, else 0
abbrev pub cad_cell : CellAnswer → CadCell
cad_cell c = record { value = c.value; clamped = cond c.clamped 1 0 }

-- a key, and 1 if one of its cells was clamped, else 0
abbrev pub cad_key : KeyAnswer → CadKey
cad_key k = record { value = k.value; clamped = cond k.clamped 1 0 }
