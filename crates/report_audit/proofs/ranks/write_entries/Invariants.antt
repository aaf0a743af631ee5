-- `write_entries` meets its contract: the first k entries are written. Assumes nothing.
use Prim.Native.Nat.{◌-◌}
use Rattle.report_audit.proofs.RankLaws.{Writing}
use Rattle.report_audit.proofs.ranks.write_entries.Given as goal

abbrev pub invariant-loop-k : goal.invariant-loop-k
invariant-loop-k l = Writing l.initial.w l.at l.m l.r l.k l.w
