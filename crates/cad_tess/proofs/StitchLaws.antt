-- Laws of cad_stitch. Assumes nothing.
use Rattle.std.specs.Prelude.{Result, Ok, Err}
use mathlib.Core.Path.{◌≡◌, refl, ap, ◌∙◌}
use mathlib.Core.Bool.{Bool, true, false}
use mathlib.Core.List.{List, map}
use Prim.Native.Nat.{ℕ}
use lib.Dec.{eqb}
use lib.ListN.{length}
use lib.Ieee.{Float}
use Rattle.stitch_definition.specs.declared.Sizes.{Sizes}
use Rattle.point_rules.specs.Rule.{Rule, names}
use Rattle.body_rows.specs.Body.{rows_of, patches_of, first_failing}
use Rattle.body_refusals.specs.BodyChecks.{body_checks}
use Rattle.stitch_definition.specs.Slices.{StitchSlices, AfterStitch, stitch_checks, write_body, refuse_stitch, cleared_slices, stitch_or_refuse}
use Rattle.stitch_definition.specs.StitchedBody.{StitchedBody}
use Rattle.stitch_definition.specs.Stitch.{stitch_body, stitch_of}
use Rattle.stitch_definition.specs.Answers.{LeftStitch, left_stitch, stitch_answered}
use Rattle.cad_answers.specs.declared.stitching.CadStitched.{CadStitched}
use Rattle.cad_answers.specs.Stitching.{cad_stitched, left_after_stitch}
use Rattle.cad_tess.proofs.Told.{either}

-- the struct and the slices of a call
abbrev flat : LeftStitch → AfterStitch
flat l = left_after_stitch (cad_stitched l.answer) l.slices

-- a refusal holds its number only
refused_told : (n : ℕ) (out : StitchSlices) → eqb n 0 ≡ false → flat (stitch_answered (refuse_stitch n out)) ≡ refuse_stitch n out
unfolding refuse_stitch
refused_told n out e =
    ap (λ (b : Bool). left_after_stitch (cad_stitched (elim b [ true ↦ Ok (record { vertices = 0; indices = 0; splits = 0 }) | false ↦ Err n ])) out) e

-- the checks of the result decide
result_told : (s : StitchedBody) (out : StitchSlices) → flat (stitch_answered (stitch_or_refuse s out)) ≡ stitch_or_refuse s out
unfolding stitch_or_refuse write_body
result_told s out =
    let rows = map (λ p. p.row) s.patches in
    let n = first_failing (stitch_checks rows out) in
    either (λ t. flat (stitch_answered t) ≡ t) (eqb n 0) (write_body rows s out) (refuse_stitch n out) refl (refused_told n out)

module _ (rule : Rule) (table : List ℕ) (ps ns : List Float) (is : List ℕ) (sag : Float) (out : StitchSlices) where
  -- the struct holds all that the definition says
  all_told : flat (stitch_answered (stitch_of rule table ps ns is sag out)) ≡ stitch_of rule table ps ns is sag out
  unfolding stitch_of
  all_told =
      let n = first_failing (body_checks table ps ns is (length out.work)) in
      let s = stitch_body sag (names rule ps) (patches_of (rows_of table) ps ns is) in
      either (λ t. flat (stitch_answered t) ≡ t) (eqb n 0) (stitch_or_refuse s (cleared_slices (rows_of table) out)) (refuse_stitch n out)
      (result_told s (cleared_slices (rows_of table) out)) (refused_told n out)

  -- what the call leaves
  pub call_left : {t : Result Sizes ℕ} {r : CadStitched} {s : StitchSlices} → left_stitch t s ≡ stitch_answered (stitch_of rule table ps ns is sag out) → r ≡ cad_stitched t
      → left_after_stitch r s ≡ stitch_of rule table ps ns is sag out
  call_left {t} {r} {s} e f = ap (λ (c : CadStitched). left_after_stitch c s) f ∙ ap flat e ∙ all_told
