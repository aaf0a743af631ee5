-- `mark_uses` meets its contract. Assumes nothing.
use Prim.Native.Nat.{◌-◌}
use Rattle.stitch_open_edges.proofs.FlagLaws.{Marking}
use Rattle.stitch_open_edges.proofs.open.mark_uses.Given as goal

abbrev pub invariant-loop-i : goal.invariant-loop-i
invariant-loop-i l = Marking l.initial.w l.at l.n l.i l.w
