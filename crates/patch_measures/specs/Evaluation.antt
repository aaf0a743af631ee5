-- A claim that says `unfolding evaluation` has every definition of this crate and of those below it computed. Assumes nothing.
use Rattle.std.specs.Prelude.{ℕ}
use Rattle.body_rows.specs.Evaluation as Body
use Rattle.patch_geometry.specs.Evaluation as Geometry
use Rattle.patch_measures.specs.Volume.{sum_volumes, patch_volume}
use Rattle.patch_measures.specs.Reach.{reach_from, farthest, escapes_body}

-- every definition that computes
unfoldable pub evaluation : ℕ
unfolding Body.evaluation Geometry.evaluation sum_volumes patch_volume reach_from farthest escapes_body
evaluation = 0
