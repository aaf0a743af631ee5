-- The answers about a patch alone as their structs. Assumes nothing.
use Rattle.std.proofs.Common.{Result}
use mathlib.Core.Path.{◌≡◌, refl, ap, ◌∙◌}
use mathlib.Core.Bool.{Bool, false, cond}
use mathlib.Core.List.{List}
use Prim.Native.Nat.{ℕ, zero, suc}
use native.Mathlib.Omega.{arith}
use lib.Dec.{eqb}
use lib.Ieee.{Float}
use borrow.Author.Tests.{ne_eqb}
use Rattle.body_rows.specs.Body.{first_failing}
use Rattle.body_refusals.specs.BodyChecks.{lone_checks}
use Rattle.patch_geometry.specs.declared.Aabb.{Aabb}
use Rattle.patch_geometry.specs.Geometry.{zero64}
use Rattle.patch_alone.specs.Alone.{Alone, alone, volume_alone, farthest_alone, escapes_alone}
use Rattle.patch_measures.specs.Volume.{patch_volume}
use Rattle.patch_measures.specs.Reach.{farthest, escapes_body}
use Rattle.patch_alone.specs.Answers.{answer_of, answer_as}
use Rattle.cad_answers.specs.declared.patch.CadMeasured.{CadMeasured}
use Rattle.cad_answers.specs.declared.patch.CadJudged.{CadJudged}
use Rattle.cad_answers.specs.Answers.{cad_measured, cad_judged}

-- an answer or a refusal, made of numbers, gives these back
numbers_back : {A : Type 0} (none : A) (n : ℕ) (x : A)
    → answer_as none (answer_of (record { refusal = n; answer = cond (eqb n 0) x none })) ≡ record { refusal = n; answer = cond (eqb n 0) x none }
numbers_back none zero x = refl
numbers_back none (suc n) x = rw (ne_eqb (suc n) 0 (λ h. omega (arith, h))) refl

module _ (ps ns : List Float) (is : List ℕ) {r : CadMeasured} {m : Result Float ℕ} (e : r ≡ cad_measured (answer_as zero64 m)) where
  -- the struct of a volume
  pub volume_struct : (flip : Bool) → m ≡ answer_of (volume_alone ps ns is flip) → r ≡ cad_measured (volume_alone ps ns is flip)
  unfolding volume_alone alone
  volume_struct flip f =
      e
      ∙ ap (λ (x : Result Float ℕ). cad_measured (answer_as zero64 x)) f
      ∙ ap cad_measured (numbers_back zero64 (first_failing (lone_checks ps ns is)) (patch_volume ps is flip))

  -- the struct of a reach
  pub farthest_struct : {b box : Aabb} → m ≡ answer_of (farthest_alone ps ns is b) → b ≡ box → r ≡ cad_measured (farthest_alone ps ns is box)
  unfolding farthest_alone alone
  farthest_struct {b} {box} f g =
      e
      ∙ ap (λ (x : Result Float ℕ). cad_measured (answer_as zero64 x)) f
      ∙ ap cad_measured (numbers_back zero64 (first_failing (lone_checks ps ns is)) (farthest ps b))
      ∙ ap (λ x. cad_measured (farthest_alone ps ns is x)) g

-- the struct of an escape
pub escapes_struct : (ps ns : List Float) (is : List ℕ) {r : CadJudged} {j : Result Bool ℕ} {b box : Aabb} → r ≡ cad_judged (answer_as false j) → j ≡ answer_of (escapes_alone ps ns is b) → b ≡ box
    → r ≡ cad_judged (escapes_alone ps ns is box)
unfolding escapes_alone alone
escapes_struct ps ns is {r} {j} {b} {box} e f g =
    e
    ∙ ap (λ (x : Result Bool ℕ). cad_judged (answer_as false x)) f
    ∙ ap cad_judged (numbers_back false (first_failing (lone_checks ps ns is)) (escapes_body ps b))
    ∙ ap (λ x. cad_judged (escapes_alone ps ns is x)) g
