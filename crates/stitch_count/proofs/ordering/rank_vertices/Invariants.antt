-- `rank_vertices` meets its contract. Assumes nothing.
use Prim.Native.Nat.{◌-◌}
use Rattle.stitch_count.proofs.OrderLaws.{Ranking}
use Rattle.stitch_count.proofs.ordering.rank_vertices.Given as goal

abbrev pub invariant-loop-j : goal.invariant-loop-j
invariant-loop-j l = Ranking l.list l.count l.order l.initial.w l.j l.w
