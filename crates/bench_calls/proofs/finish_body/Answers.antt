-- `finish_body` meets its contract. Assumes nothing.
use mathlib.Core.Path.{◌∙◌}
use Rattle.bench_calls.proofs.TurnLaws.{finished_text_lem}
use Rattle.bench_calls.proofs.finish_body.Goals as goal

pub returns : goal.returns
returns c = finished_text_lem _ _ _ _ _ _ _ _ _ _ _ _ _ _ _ _ _ _ c.print_turned.ensures c.turn-given.ensures.work_after
