-- `end_text` meets its contract. Assumes nothing.
use Rattle.plan_read.proofs.ItemLaws.{end_open, end_all}
use borrow.Author.Rules.{rules}
use Rattle.plan_read.proofs.items.end_text.Goals as goal

pub returns-then-depth-ne0 : goal.returns-then-depth-ne0
returns-then-depth-ne0 c = search (rules, end_open)

pub returns : goal.returns
returns c = search (rules, end_all)
