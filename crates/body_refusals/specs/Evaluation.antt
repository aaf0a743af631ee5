-- A claim that says `unfolding evaluation` has every definition of this crate and of those below it computed. Assumes nothing.
use Rattle.std.specs.Prelude.{ℕ}
use Rattle.point_rules.specs.Evaluation as Points
use Rattle.body_rows.specs.Evaluation as Body
use Rattle.body_refusals.specs.TableChecks.{bad_row, bad_bin, too_large, table_checks}
use Rattle.body_refusals.specs.PatchChecks.{bad_indices, patch_checks}
use Rattle.body_refusals.specs.BodyChecks.{before_work, body_checks, lone_table, lone_checks}

-- every definition that computes
unfoldable pub evaluation : ℕ
unfolding Points.evaluation Body.evaluation bad_row bad_bin too_large table_checks bad_indices patch_checks before_work body_checks lone_table lone_checks
evaluation = 0
