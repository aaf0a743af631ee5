-- `stitch_tree::bound_leaves` meets its contract. Assumes nothing.
use Rattle.stitch_tree.proofs.LeafLaws.{LeavesBounding}
use Prim.Native.Nat.{◌-◌}
use Rattle.stitch_tree.proofs.boxes.bound_leaves.Given as goal

abbrev pub invariant-loop-i : goal.invariant-loop-i
invariant-loop-i l = LeavesBounding l.positions l.order l.n l.boxes l.leaves l.initial.w l.i l.w
