-- `tally` meets its contract. Assumes nothing.
use Rattle.mesh_tally.proofs.TallyLaws.{Tallying}
use Prim.Native.Nat.{◌-◌}
use Rattle.mesh_tally.proofs.tally.Given as goal

abbrev pub invariant-loop-i : goal.invariant-loop-i
invariant-loop-i l = Tallying l.w l.at l.n l.i l.c
