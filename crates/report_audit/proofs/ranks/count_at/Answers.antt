-- `count_at_lem` meets its contract. Assumes nothing.
use Rattle.report_audit.proofs.RankLaws.{count_yes, count_no}
use borrow.Author.Rules.{rules}
use Rattle.report_audit.proofs.ranks.count_at.Goals as goal

pub returns-then-w-at : goal.returns-then-w-at
returns-then-w-at c = search (count_yes, rules)

pub returns : goal.returns
returns c = search (count_no, rules)
