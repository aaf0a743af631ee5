-- The slices that assemble is lent, and the checks 42 and 41. Assumes nothing.
use Rattle.std.specs.Prelude.{Bool, ◌||◌, List, [], ◌∷◌, ℕ, ◌*◌, length, ltb}
use Rattle.body_rows.specs.Body.{Check, check}
use Rattle.mesh_acceptance.specs.Acceptance.{Accepted, accepted_vertices, accepted_indices, failure_width}
use Rattle.mesh_materials.specs.Materials.{bad_materials}
use Rattle.mesh_layout.specs.Mesh.{Vertices, part_width, range_width}

-- the slices that assemble is lent
pub record MeshSlices : Type 0 where
  pub vertices : Vertices
  pub indices : List ℕ
  pub parts : List ℕ
  pub ranges : List ℕ
  pub failures : List ℕ
  pub work : List ℕ

-- whether slices are shorter than so many vertices need
unfoldable pub too_short : Vertices → ℕ → Bool
too_short out n = ltb (length out.positions) (3 * n) || ltb (length out.normals) (3 * n)

-- 41: mesh slices are shorter than the accepted patches need, or the part, range or failure table has fewer than F rows
unfoldable pub mesh_too_short : ℕ → List Accepted → MeshSlices → Bool
mesh_too_short F accepted out =
    too_short out.vertices (accepted_vertices accepted) || ltb (length out.indices) (accepted_indices accepted)
    || ltb (length out.parts) (part_width * F) || ltb (length out.ranges) (range_width * F) || ltb (length out.failures) (failure_width * F)

-- 42, then 41
unfoldable pub mesh_checks : ℕ → List ℕ → ℕ → List Accepted → MeshSlices → List Check
mesh_checks F materials default accepted out = check 42 (bad_materials materials default) ∷ check 41 (mesh_too_short F accepted out) ∷ []
