-- `stitch_tree::halve_blocks` meets its contract. Assumes nothing.
use Rattle.stitch_tree.proofs.OrderLaws.{Halving}
use Prim.Native.Nat.{◌-◌}
use Rattle.stitch_tree.proofs.order.halve_blocks.Given as goal

abbrev pub invariant-loop-a : goal.invariant-loop-a
invariant-loop-a l = Halving l.order l.n l.half l.initial.w l.a l.w

abbrev pub decreases-loop-a : goal.decreases-loop-a
decreases-loop-a l = l.n - l.a
