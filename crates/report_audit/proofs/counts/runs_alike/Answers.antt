-- `runs_alike` meets its contract. Assumes nothing.
use Rattle.std.proofs.Common.{arith}
use Rattle.std.proofs.lemmas.Grind.{common_steps}
use Rattle.report_audit.specs.Counts.{alike}
use Rattle.report_audit.proofs.counts.runs_alike.Goals as goal

pub returns-then-run-ne-EQUAL_ENDS : goal.returns-then-run-ne-EQUAL_ENDS
unfolding alike
returns-then-run-ne-EQUAL_ENDS c = grind (arith, common_steps)

pub returns-else-run-ne-EQUAL_ENDS : goal.returns-else-run-ne-EQUAL_ENDS
unfolding alike
returns-else-run-ne-EQUAL_ENDS c = grind (arith, common_steps)
