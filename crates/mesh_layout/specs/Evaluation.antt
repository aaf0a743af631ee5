-- A claim that says `unfolding evaluation` has every definition of this crate and of those below it computed. Assumes nothing.
use Rattle.std.specs.Prelude.{ℕ}
use Rattle.mesh_acceptance.specs.Evaluation as Acceptance
use Rattle.mesh_layout.specs.Mesh.{vertices_of, written_vertices, laid_from, materials_of, run_of, runs_of, start_of, part_of, range_of, ranges_from}

-- every definition that computes
unfoldable pub evaluation : ℕ
unfolding Acceptance.evaluation vertices_of written_vertices laid_from materials_of run_of runs_of start_of part_of range_of ranges_from
evaluation = 0
