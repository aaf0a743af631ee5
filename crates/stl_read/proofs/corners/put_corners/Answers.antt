-- `put_corners` meets its contract. Assumes nothing.
use Rattle.stl_read.proofs.CornerLaws.{putting_none, putting_more, putting_all}
use Rattle.stl_read.proofs.corners.put_corners.Goals as goal

pub loop-t-init : goal.loop-t-init
loop-t-init c = search putting_none

pub loop-t-preserved : goal.loop-t-preserved
loop-t-preserved c = search putting_more

pub returns : goal.returns
returns c = search putting_all
