-- A mesh checked as a body of one row: what it has once the checks have passed, and where they pass. Assumes nothing.
use Rattle.std.proofs.Math.Path.{◌≡◌, refl, sym, ap}
use Rattle.std.proofs.Common.{◌∙◌, take_all}
use Rattle.std.specs.Prelude.{Bool, ◌&&◌, ◌||◌, List, [], ◌∷◌, ◌++◌, ℕ, ◌+◌, ◌*◌, ◌%◌, ◌≤◌, ltb, Float}
use Rattle.std.proofs.Math.Bool.{true, false, not, cond}
use native.Mathlib.Omega.{arith}
use Rattle.std.proofs.Math.ListN.{length, take}
use Rattle.std.proofs.Math.Dec.{leb, eqb}
use borrow.Author.Tests.{ltb-false, le-ltb, eqb-true, eq-eqb, not-false}
use Rattle.lists.specs.Lists.{any, all, sum_of}
use Rattle.lists.specs.Any.{any_append}
use Rattle.lists.specs.Both.{or_left, or_right, and_left, and_right}
use Rattle.point_rules.specs.Points.{clamps}
use Rattle.body_rows.specs.Body.{check, rows_of, patches_of, all_vertices, all_indices, first_failing}
use Rattle.body_rows.specs.Checks.{clear_first, numbered}
use Rattle.body_refusals.specs.TableChecks.{bad_row, bad_bin, too_large, table_checks}
use Rattle.body_refusals.specs.PatchChecks.{bad_indices, patch_checks}
use Rattle.body_refusals.specs.BodyChecks.{before_work}
use Rattle.body_patch_checks.specs.PatchTests.{not_finite}
use Rattle.stl_definition.specs.Write.{one_row}
use Rattle.stl_definition.specs.TestLaws.{first_not, none_passes, neither, all_three}

-- what the checks to 23 ask of a mesh of v vertices
pub record Sound (v : ℕ) (ps ns : List Float) (is : List ℕ) : Type 0 where
  pub vertices : v ≤ 262144
  pub indices : length is ≤ 786432
  pub all_positions : length ps ≡ 3 * v
  pub all_normals : length ns ≡ 3 * v
  pub threes : length is % 3 ≡ 0
  pub inside : any (λ i. leb v i) is ≡ false
  pub positions : any not_finite ps ≡ false
  pub normals : any not_finite ns ≡ false

-- and to 24
pub record Passed (v : ℕ) (ps ns : List Float) (is : List ℕ) : Type 0 where
  pub sound : Sound v ps ns is
  pub unclamped : any clamps ps ≡ false

-- where no check before the last fails, it decides
last_decides : (a b c d e f g h i : Bool) → a ≡ false → b ≡ false → c ≡ false → d ≡ false → e ≡ false → f ≡ false → g ≡ false → h ≡ false
    → first_failing (check 11 a ∷ check 12 b ∷ check 13 c ∷ check 14 d ∷ check 15 e ∷ check 21 f ∷ check 22 g ∷ check 23 h ∷ check 24 i ∷ []) ≡ cond i 24 0
unfolding first_failing
last_decides a b c d e f g h i p q r s t u v w = rw (p, q, r, s, t, u, v, w)

module _ (v : ℕ) (ps ns : List Float) (is : List ℕ) where
  -- each of the checks has a number above 0
  pub row_numbered : all numbered (before_work (one_row v (length is)) ps ns is) ≡ true
  unfolding before_work table_checks patch_checks all
  row_numbered = refl

  -- tests of a front that is all
  module _ (f : Float → Bool) (a : length ps ≡ 3 * v) (b : length ns ≡ 3 * v) where
    whole_positions : any f (take (3 * v) ps) ≡ any f ps
    whole_positions = ap (any f) (take_all (3 * v) ps (omega arith))

    whole_both : any f (take (3 * v) ps ++ take (3 * v) ns) ≡ (any f ps || any f ns)
    whole_both = (λ i. any f (take_all (3 * v) ps (omega arith) i ++ take_all (3 * v) ns (omega arith) i)) ∙ any_append f ps ns

  -- what they give once they have passed
  pub row_passed : first_failing (before_work (one_row v (length is)) ps ns is) ≡ 0 → Passed v ps ns is
  unfolding before_work table_checks patch_checks rows_of patches_of all_vertices all_indices sum_of too_large bad_indices any
  row_passed h =
      let c11 = clear_first 10 _ _ h in
      let c12 = clear_first 11 _ _ c11.rest in
      let c13 = clear_first 12 _ _ c12.rest in
      let c14 = clear_first 13 _ _ c13.rest in
      let c15 = clear_first 14 _ _ c14.rest in
      let c21 = clear_first 20 _ _ c15.rest in
      let c22 = clear_first 21 _ _ c21.rest in
      let c23 = clear_first 22 _ _ c22.rest in
      let c24 = clear_first 23 _ _ c23.rest in
      let w = 3 * (v + 0) in
      let n = length is + 0 in
      let e = not-false (eqb (length ps) w && eqb (length ns) w && eqb (length is) n) c14.here in
      let f = and_left (eqb (length ps) w && eqb (length ns) w) (eqb (length is) n) e in
      let few = ltb-false 262144 (v + 0) (or_left (ltb 262144 (v + 0)) (ltb 786432 n) c13.here) in
      let short = ltb-false 786432 n (or_right (ltb 262144 (v + 0)) (ltb 786432 n) c13.here) in
      let a = eqb-true (length ps) w (and_left (eqb (length ps) w) (eqb (length ns) w) f) in
      let b = eqb-true (length ns) w (and_right (eqb (length ps) w) (eqb (length ns) w) f) in
      let p : length ps ≡ 3 * v = omega arith in
      let q : length ns ≡ 3 * v = omega arith in
      let numbers : (any not_finite ps || any not_finite ns) ≡ false = sym (whole_both not_finite p q) ∙ first_not (any not_finite (take (3 * v) ps ++ take (3 * v) ns)) false c23.here in
      record {
        sound = record {
          vertices = omega arith;
          indices = omega arith;
          all_positions = p;
          all_normals = q;
          threes = eqb-true (length is % 3) 0 (not-false (eqb (length is % 3) 0) (first_not (not (eqb (length is % 3) 0)) false c21.here));
          inside = ap (any (λ i. leb v i)) (sym (take_all (length is) is (omega arith))) ∙ first_not (any (λ i. leb v i) (take (length is) is)) false c22.here;
          positions = or_left (any not_finite ps) (any not_finite ns) numbers;
          normals = or_right (any not_finite ps) (any not_finite ns) numbers;
        };
        unclamped = sym (whole_positions clamps p q) ∙ first_not (any clamps (take (3 * v) ps)) false c24.here;
      }

  -- Where the checks to 23 pass, 24 decides.
  pub row_checks : Sound v ps ns is → first_failing (before_work (one_row v (length is)) ps ns is) ≡ cond (any clamps ps) 24 0
  unfolding before_work table_checks patch_checks rows_of patches_of all_vertices all_indices sum_of too_large bad_indices any bad_row bad_bin
  row_checks s =
      last_decides _ _ _ _ _ _ _ _ _ refl refl
      (neither (ltb 262144 (v + 0)) (ltb 786432 (length is + 0)) (le-ltb 262144 (v + 0) (omega arith)) (le-ltb 786432 (length is + 0) (omega arith)))
      (all_three (eqb (length ps) (3 * (v + 0))) (eqb (length ns) (3 * (v + 0))) (eqb (length is) (length is + 0)) (eq-eqb (length ps) (3 * (v + 0)) (omega arith))
      (eq-eqb (length ns) (3 * (v + 0)) (omega arith)) (eq-eqb (length is) (length is + 0) (omega arith)))
      refl
      (none_passes (not (eqb (length is % 3) 0)) false (ap not (eq-eqb (length is % 3) 0 s.threes)) refl)
      (none_passes (any (λ i. leb v i) (take (length is) is)) false (ap (any (λ i. leb v i)) (take_all (length is) is (omega arith)) ∙ s.inside) refl)
      (none_passes (any not_finite (take (3 * v) ps ++ take (3 * v) ns)) false
      (whole_both not_finite s.all_positions s.all_normals ∙ neither (any not_finite ps) (any not_finite ns) s.positions s.normals) refl)
      ∙ final (any clamps (take (3 * v) ps)) (any clamps ps) (whole_positions clamps s.all_positions s.all_normals)
    where
      final : (b c : Bool) → b ≡ c → ◌≡◌ {A = ℕ} (cond (elim b [ true ↦ true | false ↦ false ]) 24 0) (cond c 24 0)
      final true c e = ap {B = ℕ} (λ (t : Bool). cond t 24 0) e
      final false c e = ap {B = ℕ} (λ (t : Bool). cond t 24 0) e
