-- `stitch_tree::bound_nodes` meets its contract. Assumes nothing.
use Rattle.stitch_tree.proofs.NodeLaws.{NodesBounding}
use Rattle.stitch_tree.proofs.boxes.bound_nodes.Given as goal

abbrev pub invariant-loop-k : goal.invariant-loop-k
invariant-loop-k l = NodesBounding l.boxes l.leaves l.initial.w l.k l.w
