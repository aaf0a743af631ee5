-- `cell` meets its contract. Assumes nothing.
use Rattle.point_cell.proofs.Signs.{cell_told_lem}
use Rattle.point_cell.proofs.cell.Goals as goal

pub returns : goal.returns
returns c = search cell_told_lem
