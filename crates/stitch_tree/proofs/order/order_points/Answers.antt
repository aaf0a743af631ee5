-- `stitch_tree::order_points` meets its contract. Assumes nothing.
use Rattle.stitch_tree.proofs.OrderLaws.{ordering_none, blocks_ready, ordering_more}
use Rattle.stitch_tree.proofs.order.order_points.Goals as goal

pub loop-half-init : goal.loop-half-init
loop-half-init c = search ordering_none

pub halve_blocks-requires : goal.halve_blocks-requires
halve_blocks-requires c = search blocks_ready

pub loop-half-preserved : goal.loop-half-preserved
loop-half-preserved c = search ordering_more
