-- `stitch_tree::height` meets its contract. Assumes nothing.
use Rattle.stitch_tree.proofs.TreeLaws.{Rising}
use Prim.Native.Nat.{◌-◌}
use Rattle.stitch_tree.proofs.tree.height.Given as goal

abbrev pub invariant-loop-room : goal.invariant-loop-room
invariant-loop-room l = Rising l.n l.h l.room

abbrev pub decreases-loop-room : goal.decreases-loop-room
decreases-loop-room l = l.n - l.room
