-- Laws of cad_assemble. Assumes nothing.
use Rattle.std.specs.Prelude.{Result, Ok, Err}
use mathlib.Core.Path.{◌≡◌, refl, ap, ◌∙◌}
use mathlib.Core.Bool.{Bool, true, false}
use mathlib.Core.List.{List}
use Prim.Native.Nat.{ℕ}
use lib.Dec.{eqb}
use lib.ListN.{length}
use lib.Ieee.{Float}
use Rattle.mesh_definition.specs.declared.MeshCounts.{MeshCounts}
use Rattle.body_rows.specs.Body.{Row, rows_of, patches_of, first_failing}
use Rattle.body_refusals.specs.BodyChecks.{body_checks}
use Rattle.patch_geometry.specs.declared.Aabb.{Aabb}
use Rattle.mesh_acceptance.specs.Acceptance.{Acceptance, acceptance}
use Rattle.mesh_room.specs.Slices.{MeshSlices, mesh_checks}
use Rattle.mesh_definition.specs.Assemble.{AfterAssemble, write_mesh, refuse_mesh, cleared_mesh, assemble_or_refuse, assemble_of}
use Rattle.mesh_definition.specs.Assembled.{LeftMesh, left_mesh, counts_answered, assemble_answered}
use Rattle.cad_answers.specs.declared.assembling.CadAssembled.{CadAssembled}
use Rattle.cad_answers.specs.Assembling.{CadLeftMesh, cad_assembled, cad_left_mesh, cad_mesh_answered}
use Rattle.cad_answers.specs.AssembledStruct.{done_is}
use Rattle.cad_tess.proofs.Told.{either}

-- the struct and the slices of a call
abbrev flat : LeftMesh → CadLeftMesh
flat l = cad_left_mesh (cad_assembled l.answer) l.slices

-- they hold all that the definition says
abbrev Told : AfterAssemble → Type 0
Told t = flat (assemble_answered t) ≡ cad_mesh_answered t

-- a refusal holds its number only
refused_told : (n : ℕ) (out : MeshSlices) → eqb n 0 ≡ false → Told (refuse_mesh n out)
unfolding refuse_mesh
refused_told n out e =
    ap (λ (b : Bool). cad_left_mesh (cad_assembled (elim b [ true ↦ Ok (counts_answered (refuse_mesh n out)) | false ↦ Err n ])) out) e

-- the checks of the result decide
result_told : (rows : List Row) (materials : List ℕ) (default : ℕ) (v : Acceptance) (out : MeshSlices) → Told (assemble_or_refuse rows materials default v out)
unfolding assemble_or_refuse write_mesh
result_told rows materials default v out =
    let n = first_failing (mesh_checks (length rows) materials default v.accepted out) in
    either Told (eqb n 0) (write_mesh v out) (refuse_mesh n out) (ap (λ (r : CadAssembled). cad_left_mesh r (write_mesh v out).slices) (done_is (write_mesh v out) refl)) (refused_told n out)

module _ (table : List ℕ) (ps ns : List Float) (is : List ℕ) (box : Aabb) (materials : List ℕ) (default : ℕ) (out : MeshSlices) where
  -- before them those of the body
  all_told : Told (assemble_of table ps ns is box materials default out)
  unfolding assemble_of
  all_told =
      let n = first_failing (body_checks table ps ns is (length out.work)) in
      let v = acceptance box materials default (patches_of (rows_of table) ps ns is) in
      let o = cleared_mesh (rows_of table) out in
      either Told (eqb n 0) (assemble_or_refuse (rows_of table) materials default v o) (refuse_mesh n out) (result_told (rows_of table) materials default v o) (refused_told n out)

  -- what the call leaves
  pub call_left : {b : Aabb} {t : Result MeshCounts ℕ} {r : CadAssembled} {s : MeshSlices} → b ≡ box
      → left_mesh t s ≡ assemble_answered (assemble_of table ps ns is b materials default out) → r ≡ cad_assembled t
      → cad_left_mesh r s ≡ cad_mesh_answered (assemble_of table ps ns is box materials default out)
  call_left {b} {t} {r} {s} h e f =
      ap (λ (c : CadAssembled). cad_left_mesh c s) f ∙ ap flat (e ∙ ap (λ (x : Aabb). assemble_answered (assemble_of table ps ns is x materials default out)) h) ∙ all_told
