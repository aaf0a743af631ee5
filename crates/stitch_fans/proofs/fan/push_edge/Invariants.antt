-- `push_edge` meets its contract. Assumes nothing.
use Prim.Native.Nat.{◌-◌}
use Rattle.stitch_fans.proofs.EdgeLaws.{Pushing}
use Rattle.stitch_fans.proofs.fan.push_edge.Given as goal

abbrev pub invariant-loop-j : goal.invariant-loop-j
invariant-loop-j l = Pushing l.a l.w l.at l.count l.e l.next l.initial.g l.initial.out l.j l.out l.g
