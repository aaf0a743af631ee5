-- Laws of assemble: the words cleared, and the call. Assumes nothing.
use Rattle.std.specs.Prelude.{Result, Ok, Err}
use mathlib.Core.Path.{◌≡◌, sym, ap, ◌∙◌}
use mathlib.Core.Bool.{Bool, true, false}
use mathlib.Core.List.{List, ◌++◌}
use Prim.Native.Nat.{ℕ, ◌+◌, ◌*◌}
use borrow.Author.Tests.{eq-eqb, ne_eqb}
use lib.ListN.{length, drop, replicate}
use lib.Ieee.{Float}
use Rattle.mesh_definition.specs.declared.MeshCounts.{MeshCounts}
use Rattle.body_rows.specs.Body.{rows_of, patches_of, cleared, first_failing}
use Rattle.body_checks.specs.Cleared.{cleared_is}
use Rattle.body_refusals.specs.BodyChecks.{body_checks}
use Rattle.body_checks.specs.Accepted.{Passed}
use Rattle.patch_geometry.specs.declared.Aabb.{Aabb}
use Rattle.mesh_acceptance.specs.Acceptance.{acceptance}
use Rattle.mesh_room.specs.Slices.{MeshSlices}
use Rattle.mesh_definition.specs.Assemble.{refuse_mesh, cleared_mesh, assemble_or_refuse, assemble_of}
use Rattle.mesh_definition.specs.Assembled.{slices_of, left_mesh, assemble_answered, assemble_accepted}
use Rattle.mesh_accepted.specs.Rows.{BodyAssembled}

-- ---- the words cleared

module _ {table : List ℕ} {ps ns : List Float} {is : List ℕ} (W : List ℕ) (p : Passed table ps ns is (length W)) where
  -- the body is assembled as the definition says
  pub accepted_assembled : {box : Aabb} {materials : List ℕ} {default : ℕ} {P P' N N' : List Float} {I I' parts parts' ranges ranges' failures failures' X Z : List ℕ} {r : Result MeshCounts ℕ}
      → BodyAssembled table ps ns is box materials default P P' N N' I I' parts parts' ranges ranges' failures failures' W X r
      → Z ≡ cleared (rows_of table) X
      → left_mesh r (slices_of P' N' I' parts' ranges' failures' Z) ≡ assemble_answered (assemble_accepted table ps ns is box materials default (slices_of P N I parts ranges failures W))
  unfolding cleared_mesh
  accepted_assembled {box} {materials} {default} {P} {P'} {N} {N'} {I} {I'} {parts} {parts'} {ranges} {ranges'} {failures} {failures'} {X} {Z} b z =
      b.same Z
      ∙ ap (λ (work : List ℕ). assemble_answered (assemble_or_refuse (rows_of table) materials default (acceptance box materials default (patches_of (rows_of table) ps ns is))
      (slices_of P N I parts ranges failures work))) (cleared_is W p X b.rest z)

-- ---- the call

module _ (table : List ℕ) (ps ns : List Float) (is : List ℕ) (box : Aabb) (materials : List ℕ) (default : ℕ) (out : MeshSlices) {refusal : ℕ}
    (f : refusal ≡ first_failing (body_checks table ps ns is (length out.work))) where
  -- the definition assembles a body that no check refuses
  assemble_done : refusal ≡ 0 → assemble_of table ps ns is box materials default out ≡ assemble_accepted table ps ns is box materials default out
  unfolding assemble_of
  assemble_done e = rw (eq-eqb (first_failing (body_checks table ps ns is (length out.work))) 0 (sym f ∙ e), assemble_of)

  -- and refuses any other
  assemble_refused : (refusal ≡ 0 → ⊥) → assemble_of table ps ns is box materials default out ≡ refuse_mesh (first_failing (body_checks table ps ns is (length out.work))) out
  unfolding assemble_of
  assemble_refused e = rw (ne_eqb (first_failing (body_checks table ps ns is (length out.work))) 0 (λ x. e (f ∙ x)), assemble_of)

  -- such a body is assembled
  pub call_done : {r : Result MeshCounts ℕ} {s : MeshSlices} → refusal ≡ 0 → left_mesh r s ≡ assemble_answered (assemble_accepted table ps ns is box materials default out)
      → left_mesh r s ≡ assemble_answered (assemble_of table ps ns is box materials default out)
  call_done e t = t ∙ ap assemble_answered (sym (assemble_done e))

  -- any other is refused
  pub call_refused : (refusal ≡ 0 → ⊥) → left_mesh (Err refusal) out ≡ assemble_answered (assemble_of table ps ns is box materials default out)
  unfolding refuse_mesh
  call_refused e =
      ap (λ (b : Bool). left_mesh (elim b [
        | true ↦ Ok (record { vertices = 0; indices = 0; parts = 0; ranges = 0; failures = 0; edges = 0; opens = 0; overs = 0; closed = false })
        | false ↦ Err
            refusal
      ]) out) (sym (ne_eqb refusal 0 e))
      ∙ ap (λ (k : ℕ). assemble_answered (refuse_mesh k out)) f
      ∙ ap assemble_answered (sym (assemble_refused e))
