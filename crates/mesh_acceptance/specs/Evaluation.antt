-- A claim that says `unfolding evaluation` has every definition of this crate and of those below it computed. Assumes nothing.
use Rattle.std.specs.Prelude.{ℕ}
use Rattle.mesh_materials.specs.Evaluation as Materials
use Rattle.mesh_verdicts.specs.Evaluation as Verdicts
use Rattle.mesh_acceptance.specs.Acceptance.{with_patch, acceptance, accepted_vertices, accepted_indices, failure_numbers}

-- every definition that computes
unfoldable pub evaluation : ℕ
unfolding Materials.evaluation Verdicts.evaluation with_patch acceptance accepted_vertices accepted_indices failure_numbers
evaluation = 0
