-- `floats_of` meets its contract. Assumes nothing.
use Rattle.sheet_meaning.proofs.FloatLaws.{floated_all, floated_full, floated_more, floated_none}
use borrow.Author.Rules.{rules}
use Rattle.sheet_meaning.proofs.floats_of.Goals as goal

pub loop-i-init : goal.loop-i-init
loop-i-init c = search (rules, floated_none)

pub returns-then-out-i : goal.returns-then-out-i
returns-then-out-i c = search (rules, floated_full)

pub loop-i-preserved : goal.loop-i-preserved
loop-i-preserved c = search (rules, floated_more)

pub returns : goal.returns
returns c = floated_all _ _ _ _ c.loop-i.invariant c.loop-i-test.false
