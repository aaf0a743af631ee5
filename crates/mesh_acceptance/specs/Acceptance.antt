-- Acceptance: which patches go into the mesh and with what material, and why the others do not. Assumes nothing.
use Rattle.std.specs.Prelude.{List, [], ◌∷◌, ℕ, length}
use Rattle.std.proofs.Math.Option.{Option, none, some}
use Rattle.lists.specs.Lists.{sum_of}
use Rattle.float_steps.specs.Floats.{bits64}
use Rattle.body_rows.specs.Body.{Patch}
use Rattle.patch_geometry.specs.declared.Aabb.{Aabb}
use Rattle.mesh_verdicts.specs.declared.Failure.{Failure}
use Rattle.mesh_verdicts.specs.declared.Failure.TheVariants.{Empty, Upstream, Escape}
use Rattle.mesh_materials.specs.Materials.{material_of}
use Rattle.mesh_verdicts.specs.Failures.{failure_of}

-- an accepted patch with its material
pub record Accepted : Type 0 where
  pub patch : Patch
  pub material : ℕ

-- the face and bin of a row that isn't accepted, and why
pub record Failed : Type 0 where
  pub face : ℕ
  pub bin : ℕ
  pub failure : Failure

-- the accepted patches and the failures of a body
pub record Acceptance : Type 0 where
  pub accepted : List Accepted
  pub failed : List Failed

-- a patch with its material in front of the accepted ones, or its failure in front of the failures
unfoldable pub with_patch : Patch → ℕ → Option Failure → Acceptance → Acceptance
with_patch p m none rest = record { accepted = record { patch = p; material = m } ∷ rest.accepted; failed = rest.failed }
with_patch p m (some f) rest = record { accepted = rest.accepted; failed = record { face = p.row.face; bin = p.row.bin; failure = f } ∷ rest.failed }

-- Accepted patches and failures go in row order.
unfoldable pub acceptance : Aabb → List ℕ → ℕ → List Patch → Acceptance
acceptance box materials default [] = record { accepted = []; failed = [] }
acceptance box materials default (p ∷ ps) = with_patch p (material_of materials default p.row.face) (failure_of box p) (acceptance box materials default ps)

-- how many vertices the accepted patches have
unfoldable pub accepted_vertices : List Accepted → ℕ
accepted_vertices accepted = sum_of (λ a. a.patch.row.vertices) accepted

-- how many indices the accepted patches have
unfoldable pub accepted_indices : List Accepted → ℕ
accepted_indices accepted = sum_of (λ a. length a.patch.indices) accepted

-- how many numbers make a failure
abbrev pub failure_width : ℕ
failure_width = 5

-- a failure's numbers: face; bin; case, 0 for empty, 1 to 255 for upstream, 256 for an escape; the bits of reach and span, else 0
unfoldable pub failure_numbers : Failed → List ℕ
failure_numbers f = elim f.failure [
  | Empty ↦ f.face ∷ f.bin ∷ 0 ∷ 0 ∷ 0 ∷ []
  | Upstream n ↦ f.face ∷ f.bin ∷ n ∷ 0 ∷ 0 ∷ []
  | Escape reach span ↦ f.face ∷ f.bin ∷ 256 ∷ bits64 reach ∷ bits64 span ∷ []
]
