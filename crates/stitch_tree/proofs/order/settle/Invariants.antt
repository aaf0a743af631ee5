-- `stitch_tree::settle` meets its contract. Assumes nothing.
use Rattle.stitch_tree.proofs.OrderLaws.{Settling}
use Rattle.stitch_tree.proofs.order.settle.Given as goal

abbrev pub invariant-loop : goal.invariant-loop
invariant-loop l = Settling l.from l.to l.initial.w l.a l.b l.w
