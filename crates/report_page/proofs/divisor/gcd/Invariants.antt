-- `gcd` meets its contract. Each step keeps the divisor and lowers the second number. Assumes nothing.
use Rattle.report_page.proofs.ShareLaws.{Dividing}
use Rattle.report_page.proofs.divisor.gcd.Given as goal

abbrev pub invariant-loop-y : goal.invariant-loop-y
invariant-loop-y l = Dividing l.a l.b l.x l.y

abbrev pub decreases-loop-y : goal.decreases-loop-y
decreases-loop-y l = l.y
