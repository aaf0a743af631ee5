-- `front_entries` meets its contract. Assumes nothing.
use Rattle.plan_print.proofs.PrintLaws.{front_counted, front_whole}
use borrow.Author.Rules.{rules}
use Rattle.plan_print.proofs.front_entries.Goals as goal

pub slice_bounds-result-end : goal.slice_bounds-result-end
slice_bounds-result-end c = search (rules, front_counted)

pub returns-else-n-list : goal.returns-else-n-list
returns-else-n-list c = search (rules, front_whole)
