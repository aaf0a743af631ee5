-- `print_plan` meets its contract. Assumes nothing.
use borrow.Author.Rules.{rules}
use Rattle.plan_print.proofs.PrintLaws.{listing_refused, listing_written, plan_refused}
use Rattle.plan_print.proofs.print_plan.Goals as goal

pub returns-in-Err : goal.returns-in-Err
returns-in-Err c = search (rules, plan_refused, c.in-Err.ensures)

pub returns-in-Err-write_plan : goal.returns-in-Err-write_plan
returns-in-Err-write_plan c = search (rules, listing_refused, c.in-Ok.ensures, c.in-Err-write_plan.ensures)

pub returns-in-Ok-write_plan : goal.returns-in-Ok-write_plan
returns-in-Ok-write_plan c = search (rules, listing_written, c.in-Ok.ensures, c.in-Ok-write_plan.ensures)
