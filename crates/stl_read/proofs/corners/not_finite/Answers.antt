-- `not_finite` meets its contract. Assumes nothing.
use Rattle.stl_read.proofs.CornerLaws.{not_finite_is}
use Rattle.stl_read.proofs.corners.not_finite.Goals as goal

pub returns : goal.returns
returns c = search not_finite_is
