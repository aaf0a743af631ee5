-- `print_input` meets its contract. Assumes nothing.
use Rattle.plan_print.specs.Printing.{answered, refused}
use Rattle.plan.proofs.print_input.Goals as goal

pub returns-in-Ok : goal.returns-in-Ok
returns-in-Ok g c = answered c.print_plan.ensures

pub returns-in-Err : goal.returns-in-Err
returns-in-Err g c = refused (rw c.number.ensures at c.write_refusal.ensures)
