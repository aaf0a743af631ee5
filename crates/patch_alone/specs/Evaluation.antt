-- A claim that says `unfolding evaluation` has every definition of this crate and of those below it computed. Assumes nothing.
use Rattle.std.specs.Prelude.{ℕ}
use Rattle.patch_measures.specs.Evaluation as Measures
use Rattle.body_refusals.specs.Evaluation as Checks
use Rattle.patch_alone.specs.Alone.{alone, volume_alone, farthest_alone, escapes_alone}

-- every definition that computes
unfoldable pub evaluation : ℕ
unfolding Checks.evaluation Measures.evaluation alone volume_alone farthest_alone escapes_alone
evaluation = 0
