-- `count_uses` meets its contract: after use i the uses before it are counted. Assumes nothing.
use Prim.Native.Nat.{◌-◌}
use Rattle.edge_use_counts.proofs.CountLaws.{CountingUses}
use Rattle.edge_use_counts.proofs.counts.count_uses.Given as goal

abbrev pub invariant-loop-i : goal.invariant-loop-i
invariant-loop-i l = CountingUses l.initial.w l.firsts l.counts l.n l.i l.w
