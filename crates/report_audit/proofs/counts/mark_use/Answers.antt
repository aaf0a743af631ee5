-- `mark_use` meets its contract. Assumes nothing.
use Rattle.report_audit.proofs.CountLaws.{own_ready, far_ready, marked_yes, marked_no}
use borrow.Author.Rules.{rules}
use Rattle.report_audit.proofs.counts.mark_use.Goals as goal

pub count_one-requires : goal.count_one-requires
count_one-requires c = search (own_ready, rules)

pub count_one-requires-then-runs_alike : goal.count_one-requires-then-runs_alike
count_one-requires-then-runs_alike c = search (far_ready, rules)

pub returns-then-runs_alike : goal.returns-then-runs_alike
returns-then-runs_alike c = search (marked_yes, rules)

pub returns-else-runs_alike : goal.returns-else-runs_alike
returns-else-runs_alike c = search (marked_no, rules)
