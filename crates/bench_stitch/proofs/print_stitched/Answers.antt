-- `print_stitched` meets its contract. Assumes nothing.
use Rattle.std.proofs.Common.{◌∙◌, sym, ap, Err}
use Rattle.refusals.specs.Numbers.{numbered}
use Rattle.bench_stitch.proofs.StitchLaws.{stitch_said, stitch_said_refused}
use Rattle.bench_stitch.proofs.print_stitched.Goals as goal

pub returns-in-Ok : goal.returns-in-Ok
returns-in-Ok c =
    stitch_said _ _ _ _ _ _ _ _ _ _ _ _ _ _ _ _ _ _ _ _ (ap numbered c.in-Ok.is) c.front.ensures c.front-in-Ok.ensures c.front-in-Ok-2.ensures c.front-in-Ok-3.ensures c.assemble_next.ensures

pub returns-in-Err : goal.returns-in-Err
returns-in-Err c = stitch_said_refused _ _ _ _ _ _ _ _ _ _ _ _ _ _ _ _ (ap numbered c.in-Err.is ∙ ap Err (sym c.number.ensures)) c.write_refusal.ensures
