-- `open_group` meets its contract. Assumes nothing.
use Rattle.plan_read.proofs.ItemLaws.{group_opens, no_group, open_small, too_deep}
use borrow.Author.Rules.{rules}
use Rattle.plan_read.proofs.items.open_group.Goals as goal

pub returns-then-depth-ge-MOST_DEPTH : goal.returns-then-depth-ge-MOST_DEPTH
returns-then-depth-ge-MOST_DEPTH c = search (rules, too_deep)

pub moved-requires : goal.moved-requires
moved-requires c = search (rules, open_small)

pub returns-in-Open : goal.returns-in-Open
returns-in-Open c = search (rules, group_opens)

pub returns-in_default : goal.returns-in_default
returns-in_default c = search (rules, no_group)
