-- `list_faces` meets its contract: the first k numbers are written. Assumes nothing.
use Prim.Native.Nat.{◌-◌}
use Rattle.report_audit.proofs.FaceLaws.{Listing}
use Rattle.report_audit.proofs.faces.list_faces.Given as goal

abbrev pub invariant-loop-k : goal.invariant-loop-k
invariant-loop-k l = Listing l.rows l.initial.w l.at l.k l.w
