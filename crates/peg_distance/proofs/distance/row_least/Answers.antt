-- `row_least` meets its contract. Assumes nothing.
use Rattle.peg_distance.proofs.DistanceLaws.{least_all, least_more, least_none}
use Rattle.peg_distance.proofs.distance.row_least.Goals as goal

pub loop-t-init : goal.loop-t-init
loop-t-init c = search least_none

pub loop-t-preserved : goal.loop-t-preserved
loop-t-preserved c = search least_more

pub returns : goal.returns
returns c = search least_all
