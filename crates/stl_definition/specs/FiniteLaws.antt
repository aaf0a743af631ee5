-- The corners of a mesh that passes are finite and unclamped, as its positions are; and what is read of a file makes a mesh that passes to 23. Assumes nothing.
use Rattle.std.specs.Prelude.{◌≡◌, Bool, false, ℕ, zero, suc, ◌+◌, ◌*◌, ◌/◌, ◌≤◌, length, get_or, replicate, leb, Float}
use Rattle.std.proofs.Math.Path.{refl}
use Rattle.std.proofs.Common.{ap, ◌∙◌, arith}
use mathlib.Core.List.{List, [], ◌∷◌, ◌++◌, flat_map}
use Rattle.std.proofs.lemmas.List.{length-replicate}
use Rattle.std.specs.Float.Ieee.{nan, of_bits}
use borrow.Author.Tests.{leb-false, lt-leb}
use Rattle.lists.specs.Lists.{any}
use Rattle.lists.specs.Any.{any_append, any_none}
use Rattle.float_steps.specs.Floats.{f32, finite}
use Rattle.body_rows.specs.Body.{triangles_of}
use Rattle.body_patch_checks.specs.PatchTests.{not_finite}
use Rattle.stl_definition.specs.File.{point_in, corners, corners_of}
use Rattle.stl_definition.specs.Read.{numbers_from}
use Rattle.stl_definition.specs.TestLaws.{first_not, rest_not, none_passes, neither}
use Rattle.stl_definition.specs.CornerLaws.{numbers_length}
use Rattle.stl_definition.specs.RowLaws.{Sound}

-- ---- corners

module _ (f : Float → Bool) (ps : List Float) (v : ℕ) (n : length ps ≡ 3 * v) (none : any f ps ≡ false) where
  -- a test that no position passes, of a vertex that is there
  point_none : (i : ℕ) → leb v i ≡ false → any f (point_in 3 ps i) ≡ false
  unfolding any
  point_none i h =
      let l = leb-false v i h in
      none_passes (f (get_or ps (3 * i) nan)) _ (any_none f ps nan none (3 * i) (omega arith))
      (none_passes (f (get_or ps (3 * i + 1) nan)) _ (any_none f ps nan none (3 * i + 1) (omega arith))
      (none_passes (f (get_or ps (3 * i + 2) nan)) _ (any_none f ps nan none (3 * i + 2) (omega arith)) refl))

  -- and of every corner
  pub corners_none : (is : List ℕ) → any (λ i. leb v i) is ≡ false → any f (corners_of 3 ps is) ≡ false
  unfolding any corners_of triangles_of flat_map
  corners_none [] h = refl
  corners_none (a ∷ []) h = refl
  corners_none (a ∷ b ∷ []) h = refl
  corners_none (a ∷ b ∷ c ∷ is) h =
      let h1 = rest_not (leb v a) _ h in
      let h2 = rest_not (leb v b) _ h1 in
      let pa = point_in 3 ps a in
      let pb = point_in 3 ps b in
      let pc = point_in 3 ps c in
      any_append f (pa ++ pb ++ pc) (flat_map (corners 3 ps) (triangles_of is))
      ∙ neither (any f (pa ++ pb ++ pc)) _
      (any_append f (pa ++ pb) pc
      ∙ neither (any f (pa ++ pb)) (any f pc) (any_append f pa pb ∙ neither (any f pa) (any f pb) (point_none a (first_not (leb v a) _ h)) (point_none b (first_not (leb v b) _ h1)))
      (point_none c (first_not (leb v c) _ h2)))
      (corners_none is (rest_not (leb v c) _ h2))

-- ---- what was read

-- numbers in turn are below their end
numbers_below : (m n k : ℕ) → k + n ≤ m → any (λ i. leb m i) (numbers_from k n) ≡ false
unfolding any numbers_from
numbers_below m zero k h = refl
numbers_below m (suc n) k h = none_passes (leb m k) _ (lt-leb m k (omega arith)) (numbers_below m n (suc k) (omega arith))

-- zeros are finite
zeros_finite : (n : ℕ) → any not_finite (replicate n (f32 0)) ≡ false
unfolding any finite of_bits
zeros_finite zero = refl
zeros_finite (suc n) = zeros_finite n

-- Finite corners of at most 32,000 triangles, with normals of zero and indices in turn, pass the checks to 23.
pub read_sound : (n : ℕ) (xs : List Float) → n ≤ 32000 → length xs ≡ 9 * n → any not_finite xs ≡ false → Sound (length xs / 3) xs (replicate (9 * n) (f32 0)) (numbers_from 0 (3 * n))
read_sound n xs few nine all_finite =
    let k = numbers_length 0 (3 * n) in
    record {
      vertices = omega arith;
      indices = omega arith;
      all_positions = omega arith;
      all_normals = omega (arith, length-replicate (9 * n) (f32 0));
      threes = omega arith;
      inside = ap (λ (m : ℕ). any (λ i. leb m i) (numbers_from 0 (3 * n))) third ∙ numbers_below (3 * n) (3 * n) 0 (omega arith);
      positions = all_finite;
      normals = zeros_finite (9 * n);
    }
  where
    third : length xs / 3 ≡ 3 * n
    third = omega arith
