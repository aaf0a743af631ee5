-- `close_group` meets its contract. Assumes nothing.
use Rattle.plan_read.proofs.ItemLaws.{close_none, close_some}
use borrow.Author.Rules.{rules}
use Rattle.plan_read.proofs.items.close_group.Goals as goal

pub returns-then-depth-eq0 : goal.returns-then-depth-eq0
returns-then-depth-eq0 c = search (rules, close_none)

pub returns : goal.returns
returns c = search (rules, close_some)
