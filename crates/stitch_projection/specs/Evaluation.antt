-- A claim that says `unfolding evaluation` has every definition of this crate and of those below it computed. Assumes nothing.
use Rattle.std.specs.Prelude.{ℕ}
use Rattle.float_narrow.specs.Evaluation as Narrowing
use Rattle.patch_geometry.specs.Evaluation as Geometry
use Rattle.stitch_projection.specs.Projection.{near_end, far_end, edge_of, project, within_sag, least_length, mixed}

-- every definition that computes
unfoldable pub evaluation : ℕ
unfolding Narrowing.evaluation Geometry.evaluation near_end far_end edge_of project within_sag least_length mixed
evaluation = 0
