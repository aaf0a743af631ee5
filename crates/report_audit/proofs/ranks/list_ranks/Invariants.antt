-- `list_ranks` meets its contract: the words of the first k rows are listed. Assumes nothing.
use Prim.Native.Nat.{◌-◌}
use Rattle.report_audit.proofs.RankLaws.{Listing}
use Rattle.report_audit.proofs.ranks.list_ranks.Given as goal

abbrev pub invariant-loop-k : goal.invariant-loop-k
invariant-loop-k l = Listing l.initial.w l.at l.m l.k l.w
