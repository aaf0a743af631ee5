-- A claim that says `unfolding evaluation` has every definition of this crate and of those below it computed. Assumes nothing.
use Rattle.std.specs.Prelude.{ℕ}
use Rattle.mesh_layout.specs.Evaluation as Mesh
use Rattle.mesh_room.specs.Slices.{too_short, mesh_too_short, mesh_checks}

-- every definition that computes
unfoldable pub evaluation : ℕ
unfolding Mesh.evaluation too_short mesh_too_short mesh_checks
evaluation = 0
