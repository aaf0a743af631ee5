-- `write_entries` meets its contract. Assumes nothing.
use Prim.Native.Nat.{◌-◌}
use Rattle.report.proofs.ListLaws.{Writing}
use Rattle.report.proofs.list.write_entries.Given as goal

abbrev pub invariant-loop-k : goal.invariant-loop-k
invariant-loop-k l = Writing l.w l.at l.r l.listed l.initial.list l.k l.list
