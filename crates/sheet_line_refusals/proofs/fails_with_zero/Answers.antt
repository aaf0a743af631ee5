-- `fails_with_zero` meets its contract. Assumes nothing.
use Rattle.sheet_line_refusals.proofs.OrderLaws.{fails_either, fails_no}
use borrow.Author.Rules.{rules}
use Rattle.sheet_line_refusals.proofs.fails_with_zero.Goals as goal

pub returns-in-Fail : goal.returns-in-Fail
returns-in-Fail c = search (rules, fails_either)

pub returns-in_default : goal.returns-in_default
returns-in_default c = search (rules, fails_no)
