-- `stitch_tree::part` meets its contract. Assumes nothing.
use Rattle.stitch_tree.proofs.OrderLaws.{Parting}
use Prim.Native.Nat.{◌-◌}
use Rattle.stitch_tree.proofs.order.part.Given as goal

abbrev pub invariant-loop-j : goal.invariant-loop-j
invariant-loop-j l = Parting l.from l.to l.initial.w l.cut l.j l.w
