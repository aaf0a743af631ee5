-- `share_of` meets its contract. The divisor of some faces is not 0. Assumes nothing.
use Rattle.report_page.proofs.ShareLaws.{gcd_above, share_none, share_some}
use Rattle.report_page.proofs.divisor.share_of.Goals as goal

pub returns-then-faces-eq0 : goal.returns-then-faces-eq0
returns-then-faces-eq0 c = search share_none

pub nonzero_div-result : goal.nonzero_div-result
nonzero_div-result c = gcd_above _ _ c.gcd-d.ensures c.if-faces-eq0.false

pub nonzero_div-result-2 : goal.nonzero_div-result-2
nonzero_div-result-2 c = gcd_above _ _ c.gcd-d.ensures c.if-faces-eq0.false

pub returns : goal.returns
returns c = search share_some
