-- A claim that says `unfolding evaluation` has every definition of this crate and of those below it computed. Assumes nothing.
use Rattle.std.specs.Prelude.{ℕ}
use Rattle.lists.specs.Evaluation as Lists
use Rattle.float_sqrt.specs.Evaluation as Roots
use Rattle.patch_geometry.specs.Geometry.{length_v, diagonal}
use Rattle.patch_geometry.specs.Given.{box68, one_point, vertex}

-- every definition that computes
unfoldable pub evaluation : ℕ
unfolding Lists.evaluation Roots.evaluation length_v diagonal box68 one_point vertex
evaluation = 0
