-- A claim that says `unfolding evaluation` has every definition of this crate and of those below it computed. Assumes nothing.
use Rattle.std.specs.Prelude.{ℕ}
use Rattle.body_refusals.specs.Evaluation as Checks
use Rattle.mesh_counts.specs.Evaluation as Counts
use Rattle.mesh_room.specs.Evaluation as Room
use Rattle.mesh_definition.specs.Assemble.{mesh_of, refuse_mesh, write_mesh, cleared_mesh, assemble_or_refuse, assemble_of}

-- every definition that computes
unfoldable pub evaluation : ℕ
unfolding Checks.evaluation Counts.evaluation Room.evaluation mesh_of refuse_mesh write_mesh cleared_mesh assemble_or_refuse assemble_of
evaluation = 0
