-- `print_turned` meets its contract. Assumes nothing.
use Rattle.std.proofs.Common.{◌∙◌, sym, ap, Err}
use Rattle.refusals.specs.Numbers.{numbered}
use Rattle.bench_calls.proofs.TurnLaws.{turn_said, turn_said_refused}
use Rattle.bench_calls.proofs.print_turned.Goals as goal

pub returns-in-Ok : goal.returns-in-Ok
returns-in-Ok c = turn_said _ _ _ _ _ _ _ _ _ _ _ _ _ _ _ _ (ap numbered c.in-Ok.is) c.stitch_next.ensures

pub returns-in-Err : goal.returns-in-Err
returns-in-Err c = turn_said_refused _ _ _ _ _ _ _ _ _ _ _ _ _ _ _ _ (ap numbered c.in-Err.is ∙ ap Err (sym c.number.ensures)) c.write_refusal.ensures
