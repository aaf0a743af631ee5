-- `point_not_finite` meets its contract. Assumes nothing.
use Rattle.stl_read.proofs.CornerLaws.{point_any}
use Rattle.stl_read.proofs.corners.point_not_finite.Goals as goal

pub returns : goal.returns
returns c = search point_any
