-- `count_rows` meets its contract. With k rows counted, the counts and what the rest count make the whole. Assumes nothing.
use Rattle.report_page.proofs.CountLaws.{Counting}
use Rattle.report_page.proofs.counts.count_rows.Given as goal

abbrev pub invariant-loop-k : goal.invariant-loop-k
invariant-loop-k l = Counting l.rows l.positions l.indices l.fn.reference l.base l.i l.k l.counts
