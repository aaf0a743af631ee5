-- `gather` meets its contract: of the first i ranks those with a count above 0 are gathered. Assumes nothing.
use Prim.Native.Nat.{◌-◌}
use Rattle.report_audit.proofs.RankLaws.{Gathering}
use Rattle.report_audit.proofs.ranks.gather.Given as goal

abbrev pub invariant-loop-i : goal.invariant-loop-i
invariant-loop-i l = Gathering l.initial.w l.at l.m l.r l.i l.w
