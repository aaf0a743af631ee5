-- `any_not_finite` meets its contract. Assumes nothing.
use Rattle.stl_read.proofs.CornerLaws.{looked_none, looked_more, looked_all}
use Rattle.stl_read.proofs.corners.any_not_finite.Goals as goal

pub loop-t-init : goal.loop-t-init
loop-t-init c = looked_none _ _

pub loop-t-preserved : goal.loop-t-preserved
loop-t-preserved c = search looked_more

pub returns : goal.returns
returns c = search looked_all
