-- `count_marks` meets its contract: after use i the marks of the uses before it are counted. Assumes nothing.
use Prim.Native.Nat.{◌-◌}
use Rattle.report_audit.proofs.CountLaws.{Counting}
use Rattle.report_audit.proofs.counts.count_marks.Given as goal

abbrev pub invariant-loop-i : goal.invariant-loop-i
invariant-loop-i l = Counting l.initial.w l.firsts l.n l.heads l.counts l.m l.i l.w
