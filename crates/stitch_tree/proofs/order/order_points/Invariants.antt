-- `stitch_tree::order_points` meets its contract. Assumes nothing.
use Rattle.stitch_tree.proofs.OrderLaws.{Ordering}
use Rattle.stitch_tree.proofs.order.order_points.Given as goal

abbrev pub invariant-loop-half : goal.invariant-loop-half
invariant-loop-half l = Ordering l.order l.n l.initial.w l.half l.w

abbrev pub decreases-loop-half : goal.decreases-loop-half
decreases-loop-half l = l.half
