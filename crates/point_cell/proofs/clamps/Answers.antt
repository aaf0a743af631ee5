-- `clamps` meets its contract. Assumes nothing.
use Rattle.point_cell.proofs.Clamping.{clamps_between}
use Rattle.point_cell.proofs.clamps.Goals as goal

pub returns : goal.returns
returns c = search clamps_between
