-- A claim that says `unfolding evaluation` has every definition of this crate and of those below it computed. Assumes nothing.
use Rattle.std.specs.Prelude.{ℕ}
use Rattle.patch_measures.specs.Evaluation as Measures
use Rattle.body_rows.specs.Evaluation as Body
use Rattle.mesh_verdicts.specs.Failures.{escape_of, failure_by}

-- every definition that computes
unfoldable pub evaluation : ℕ
unfolding Body.evaluation Measures.evaluation escape_of failure_by
evaluation = 0
