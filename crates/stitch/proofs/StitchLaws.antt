-- Laws of stitch: the sag decides, an accepted body stitched, and the call. Assumes nothing.
use Rattle.std.specs.Prelude.{Result, Ok, Err}
use mathlib.Core.Path.{◌≡◌, sym, ap, ◌∙◌, subst}
use mathlib.Core.Bool.{Bool, true, false}
use mathlib.Core.List.{List, ◌++◌}
use Prim.Native.Nat.{ℕ, ◌+◌, ◌*◌}
use lib.ListN.{length, drop, replicate}
use lib.Ieee.{Float, lt}
use borrow.Author.Tests.{eq-eqb, ne_eqb}
use Rattle.stitch_definition.specs.declared.Sizes.{Sizes}
use Rattle.point_rules.specs.Rule.{names}
use Rattle.point_rules.specs.Points.{key}
use Rattle.body_rows.specs.Body.{Patch, rows_of, patches_of, all_vertices, cleared, first_failing}
use Rattle.body_refusals.specs.BodyChecks.{body_checks}
use Rattle.body_rows.specs.Rows.{Total}
use Rattle.body_checks.specs.Accepted.{Passed}
use Rattle.body_checks.specs.Cleared.{cleared_is}
use Rattle.patch_geometry.specs.Geometry.{zero64}
use Rattle.stitch_definition.specs.Slices.{StitchSlices, refuse_stitch, cleared_slices, stitch_or_refuse}
use Rattle.stitch_definition.specs.StitchedBody.{StitchedBody, stitched_body}
use Rattle.stitch_definition.specs.Stitch.{stitch_body, stitch_of, stitch_accepted}
use Rattle.stitch_definition.specs.Answers.{slices_of, left_stitch, stitch_answered}
use Rattle.stitch_result_checks.specs.Stitched.{StitchReady, BodyStitched, words_needed}

-- ---- the sag decides

module _ (sag : Float) (ns : List ℕ) (patches : List Patch) where
  -- a sag above 0 stitches, any other copies
  body_above : lt zero64 sag ≡ true → stitch_body sag ns patches ≡ stitched_body sag ns patches
  unfolding stitch_body
  body_above h = ap (λ (b : Bool). elim b [ true ↦ stitched_body sag ns patches | false ↦ record { patches = patches; splits = 0 } ]) h

  body_not_above : lt zero64 sag ≡ false → stitch_body sag ns patches ≡ record { patches = patches; splits = 0 }
  unfolding stitch_body
  body_not_above h = ap (λ (b : Bool). elim b [ true ↦ stitched_body sag ns patches | false ↦ record { patches = patches; splits = 0 } ]) h

  module _ {R R' : List ℕ} {P P' N N' : List Float} {I I' : List ℕ} {needed : ℕ} {W E : List ℕ} {r : Result Sizes ℕ} where
    -- and so does the code
    pub sag_above : lt zero64 sag ≡ true → BodyStitched (stitched_body sag ns patches) R R' P P' N N' I I' needed W E r → BodyStitched (stitch_body sag ns patches) R R' P P' N N' I I' needed W E r
    sag_above h b = subst (λ (s : StitchedBody). BodyStitched s R R' P P' N N' I I' needed W E r) (sym (body_above h)) b

    pub sag_not_above : lt zero64 sag ≡ false → BodyStitched (record { patches = patches; splits = 0 }) R R' P P' N N' I I' needed W E r
        → BodyStitched (stitch_body sag ns patches) R R' P P' N N' I I' needed W E r
    sag_not_above h b = subst (λ (s : StitchedBody). BodyStitched s R R' P P' N N' I I' needed W E r) (sym (body_not_above h)) b

-- ---- an accepted body

module _ {table : List ℕ} {ps ns : List Float} {is : List ℕ} (W : List ℕ) {v m : ℕ} (p : Passed table ps ns is (length W)) (ev : Total (all_vertices (rows_of table)) v)
    (em : m ≡ length (rows_of table)) where
  -- it can be stitched
  pub ready : StitchReady table ps ns is W v m
  ready = record { passed = p; vertices = ev.is; rows = em }

  module _ (sag : Float) {R R' : List ℕ} {P P' N N' : List Float} {I I' X Z : List ℕ} {r : Result Sizes ℕ}
      (b : BodyStitched (stitch_body sag (names key ps) (patches_of (rows_of table) ps ns is)) R R' P P' N N' I I' (16 * length is + 16 * m + 4 * v) W X r)
      (z : Z ≡ cleared (rows_of table) X) where
    work_is : Z ≡ cleared (rows_of table) W
    work_is = cleared_is W p X (subst (λ (k : ℕ). drop k X ≡ drop k W) (sym (words_needed ready)) b.rest) z

    -- the body is stitched as the definition says
    pub accepted_stitched : left_stitch r (slices_of R' P' N' I' Z) ≡ stitch_answered (stitch_accepted table ps ns is sag (slices_of R P N I W))
    unfolding cleared_slices
    accepted_stitched =
        b.same Z
        ∙ ap (λ (work : List ℕ). stitch_answered (stitch_or_refuse (stitch_body sag (names key ps) (patches_of (rows_of table) ps ns is)) (slices_of R P N I work))) work_is

-- ---- the call

module _ (table : List ℕ) (ps ns : List Float) (is : List ℕ) (sag : Float) (R : List ℕ) (P N : List Float) (I W : List ℕ) {refusal : ℕ}
    (f : refusal ≡ first_failing (body_checks table ps ns is (length W))) where
  -- the definition stitches a body that no check refuses
  stitch_done : refusal ≡ 0 → stitch_of key table ps ns is sag (slices_of R P N I W) ≡ stitch_accepted table ps ns is sag (slices_of R P N I W)
  unfolding stitch_of
  stitch_done e = rw (eq-eqb (first_failing (body_checks table ps ns is (length W))) 0 (sym f ∙ e), stitch_of)

  -- and refuses any other
  stitch_refused : (refusal ≡ 0 → ⊥) → stitch_of key table ps ns is sag (slices_of R P N I W) ≡ refuse_stitch (first_failing (body_checks table ps ns is (length W))) (slices_of R P N I W)
  unfolding stitch_of
  stitch_refused e = rw (ne_eqb (first_failing (body_checks table ps ns is (length W))) 0 (λ q. e (f ∙ q)), stitch_of)

  -- such a body is stitched
  pub call_done : {r : Result Sizes ℕ} {s : StitchSlices} → refusal ≡ 0 → left_stitch r s ≡ stitch_answered (stitch_accepted table ps ns is sag (slices_of R P N I W))
      → left_stitch r s ≡ stitch_answered (stitch_of key table ps ns is sag (slices_of R P N I W))
  call_done e t = t ∙ ap stitch_answered (sym (stitch_done e))

  -- any other is refused
  pub call_refused : (refusal ≡ 0 → ⊥) → left_stitch (Err refusal) (slices_of R P N I W) ≡ stitch_answered (stitch_of key table ps ns is sag (slices_of R P N I W))
  unfolding refuse_stitch
  call_refused e =
      ap (λ (b : Bool). left_stitch (elim b [ true ↦ Ok (record { vertices = 0; indices = 0; splits = 0 }) | false ↦ Err refusal ]) (slices_of R P N I W)) (sym (ne_eqb refusal 0 e))
      ∙ ap (λ (k : ℕ). stitch_answered (refuse_stitch k (slices_of R P N I W))) f
      ∙ ap stitch_answered (sym (stitch_refused e))
