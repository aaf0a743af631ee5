-- `scan` meets its contract. Assumes nothing.
use Rattle.sheet_lines.proofs.ScanLaws.{scanning_all, scanning_more, scanning_none, scanning_other}
use borrow.Author.Rules.{rules}
use Rattle.sheet_lines.proofs.scanning.scan.Goals as goal

pub loop-p-init : goal.loop-p-init
loop-p-init c = search (rules, scanning_none)

pub returns-in_default : goal.returns-in_default
returns-in_default c = scanning_other _ _ _ _ _ _ _ c.loop-p.invariant c.loop-p-test.true c.in_default.ensures

pub loop-p-preserved : goal.loop-p-preserved
loop-p-preserved c = scanning_more _ _ _ _ _ _ _ c.loop-p.invariant c.loop-p-test.true _ _ c.in-Some.ensures c.numbers_of-count.ensures

pub returns : goal.returns
returns c = search (rules, scanning_all)
