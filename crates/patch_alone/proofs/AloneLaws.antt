-- The answers about a patch alone. Assumes nothing.
use mathlib.Core.Path.{◌≡◌, refl, sym, ◌∙◌}
use mathlib.Core.Bool.{Bool, false}
use mathlib.Core.List.{List}
use Prim.Native.Nat.{ℕ, ◌<◌}
use native.Mathlib.Omega.{arith}
use lib.Ieee.{Float}
use borrow.Author.Tests.{ne_eqb}
use Rattle.body_rows.specs.Body.{first_failing}
use Rattle.body_refusals.specs.BodyChecks.{lone_checks}
use Rattle.body_checks.specs.Accepted.{passed_alone}
use Rattle.patch_geometry.specs.declared.Aabb.{Aabb}
use Rattle.std.proofs.Common.{Ok, Err}
use Rattle.patch_alone.specs.Answers.{answer_of}
use Rattle.patch_measures.specs.Volume.{CornersInside, patch_volume}
use Rattle.patch_geometry.specs.Geometry.{zero64}
use Rattle.patch_alone.specs.Alone.{alone, volume_alone, farthest_alone, escapes_alone}
use Rattle.patch_measures.specs.Reach.{farthest, escapes_body}

module _ (ps ns : List Float) (is : List ℕ) {n : ℕ} (e : n ≡ first_failing (lone_checks ps ns is)) where
  -- the checks have passed: each index is of a vertex
  pub within_alone : n ≡ 0 → CornersInside ps is
  within_alone z = (passed_alone ps ns is (sym e ∙ z)).inside

  -- a check fails
  pub refused : {A : Type 0} (none answer : A) → (n ≡ 0 → ⊥) → Err n ≡ answer_of (alone ps ns is none answer)
  unfolding alone
  refused none answer h = rw (sym e, ne_eqb n 0 h)

  -- none does
  pub answered : {A : Type 0} (none answer : A) {r : A} → n ≡ 0 → r ≡ answer → Ok r ≡ answer_of (alone ps ns is none answer)
  unfolding alone
  answered none answer z f = rw (sym e, z, f)

  -- the volume is refused
  pub volume_refused : (flip : Bool) → (n ≡ 0 → ⊥) → Err n ≡ answer_of (volume_alone ps ns is flip)
  unfolding volume_alone
  volume_refused flip h = refused zero64 (patch_volume ps is flip) h

  -- the volume is answered
  pub volume_answered : (flip : Bool) {r : Float} → n ≡ 0 → r ≡ patch_volume ps is flip → Ok r ≡ answer_of (volume_alone ps ns is flip)
  unfolding volume_alone
  volume_answered flip z f = answered zero64 (patch_volume ps is flip) z f

  -- the reach is refused
  pub farthest_refused : (box : Aabb) → (n ≡ 0 → ⊥) → Err n ≡ answer_of (farthest_alone ps ns is box)
  unfolding farthest_alone
  farthest_refused box h = refused zero64 (farthest ps box) h

  -- the reach is answered
  pub farthest_answered : (box : Aabb) {r : Float} → n ≡ 0 → r ≡ farthest ps box → Ok r ≡ answer_of (farthest_alone ps ns is box)
  unfolding farthest_alone
  farthest_answered box z f = answered zero64 (farthest ps box) z f

  -- the escape is refused
  pub escapes_refused : (box : Aabb) → (n ≡ 0 → ⊥) → Err n ≡ answer_of (escapes_alone ps ns is box)
  unfolding escapes_alone
  escapes_refused box h = refused false (escapes_body ps box) h

  -- the escape is answered
  pub escapes_answered : (box : Aabb) {r : Bool} → n ≡ 0 → r ≡ escapes_body ps box → Ok r ≡ answer_of (escapes_alone ps ns is box)
  unfolding escapes_alone
  escapes_answered box z f = answered false (escapes_body ps box) z f

-- ---- the escape, whatever form the code gives its refusal

-- what a check refuses, the definition answers with the first that fails
pub escapes_told : (ps ns : List Float) (is : List ℕ) (box : Aabb) → 0 < first_failing (lone_checks ps ns is)
    → answer_of (escapes_alone ps ns is box) ≡ Err (first_failing (lone_checks ps ns is))
escapes_told ps ns is box h = sym (escapes_refused ps ns is refl box (λ z. omega (arith, h, z)))
