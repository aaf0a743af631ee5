-- `gcd` meets its contract. Each step keeps the divisor and lowers the second number. Assumes nothing.
use Rattle.report_page.proofs.ShareLaws.{dividing_none, dividing_more, dividing_less, dividing_all}
use Rattle.report_page.proofs.divisor.gcd.Goals as goal

pub loop-y-init : goal.loop-y-init
loop-y-init c = dividing_none _ _

pub loop-y-smaller : goal.loop-y-smaller
loop-y-smaller c = search dividing_less

pub loop-y-preserved : goal.loop-y-preserved
loop-y-preserved c = search dividing_more

pub returns : goal.returns
returns c = search dividing_all
