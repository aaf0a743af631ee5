-- `append_failure` meets its contract. An accepted row adds none, another one. Assumes nothing.
use mathlib.Core.Path.{sym, ap, ◌∙◌}
use Rattle.mesh_verdicts.specs.Verdicts.{failure_in}
use Rattle.mesh_failures.proofs.FailureLaws.{failure_none, failure_one}
use Rattle.mesh_failures.proofs.failures.append_failure.Goals as goal

pub returns-then-d-ne0 : goal.returns-then-d-ne0
returns-then-d-ne0 c = failure_none (sym (c.requires.other c.if-d-ne0.true))

pub returns-in-Ok : goal.returns-in-Ok
returns-in-Ok c = failure_none (sym (ap failure_in c.in-Ok.is) ∙ c.row_verdict-verdict.ensures)

pub returns-in-Err : goal.returns-in-Err
returns-in-Err c = failure_one (sym (ap failure_in c.in-Err.is) ∙ c.row_verdict-verdict.ensures) c.face.ensures c.bin.ensures c.put_failure.ensures
