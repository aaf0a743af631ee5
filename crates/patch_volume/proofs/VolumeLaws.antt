-- The loop of `patch_volume` follows `sum_volumes`: what is left to add is the same at each turn. Assumes nothing.
use mathlib.Core.Path.{◌≡◌, refl, sym, ap, ◌∙◌, subst}
use mathlib.Core.Bool.{Bool, true, false}
use mathlib.Core.List.{List, [], ◌∷◌}
use Prim.Native.Nat.{ℕ, suc, ◌+◌, ◌*◌, ◌/◌, ◌≤◌, ◌<◌}
use native.Mathlib.Omega.{arith}
use native.Mathlib.Numerals.{towards_suc}
use lib.ListN.{length, get_or, drop, length-drop}
use lib.Seq.{drop-cons}
use lib.Ieee.{Float}
use Rattle.std.specs.Simd.{first_chunks}
use Rattle.lists.specs.Chunks.{chunk_at}
use Rattle.patch_geometry.specs.declared.Vec3.{Vec3}
use Rattle.body_rows.specs.Body.{triangles_of}
use Rattle.patch_measures.specs.Volume.{det, triangle_volume, sum_volumes, patch_volume, CornersInside, Corners}
use Rattle.patch_geometry.specs.Geometry.{point_at, add, div, zero64, six64}

-- the triangle at k, and those behind it
pub triangles_more : (is : List ℕ) (k : ℕ) → k + 2 < length is → triangles_of (drop k is) ≡ record { a = get_or is k 0; b = get_or is (k + 1) 0; c = get_or is (k + 2) 0 } ∷ triangles_of (drop (k + 3) is)
unfolding triangles_of
triangles_more is k h =
    simp towards_suc
    (ap triangles_of
    (drop-cons is k 0 (omega arith)
    ∙ ap (λ (r : List ℕ). get_or is k 0 ∷ r) (drop-cons is (suc k) 0 (omega arith) ∙ ap (λ (r : List ℕ). get_or is (suc k) 0 ∷ r) (drop-cons is (suc (suc k)) 0 (omega arith)))))

-- fewer than three indices are no triangle
pub triangles_none : (is : List ℕ) → length is < 3 → triangles_of is ≡ []
unfolding triangles_of
triangles_none [] h = refl
triangles_none (a ∷ []) h = refl
triangles_none (a ∷ b ∷ []) h = refl
triangles_none (a ∷ b ∷ c ∷ is) h = absurd (no (length is) h)
  where
    no : (n : ℕ) → suc (suc (suc n)) < 3 → ⊥
    no n h = omega arith

-- with i triangles added the sum v is such that the rest gives the whole
pub record Summing (ps : List Float) (is : List ℕ) (flip : Bool) (i : ℕ) (v : Float) : Type 0 where
  pub low : i ≤ length is / 3
  pub rest : sum_volumes ps flip v (triangles_of (drop (3 * i) is)) ≡ sum_volumes ps flip zero64 (triangles_of is)

-- no triangle is added yet
pub summing_none : (ps : List Float) (is : List ℕ) (flip : Bool) → Summing ps is flip 0 zero64
summing_none ps is flip = record { low = omega arith; rest = refl }

-- corner j of chunk i of the indices
abbrev pub corner_at : List (List ℕ) → ℕ → ℕ → ℕ
corner_at cs i j = get_or (get_or cs i []) j 0

-- the triangle that chunk i is
module _ (is : List ℕ) {cs : List (List ℕ)} {i : ℕ} (front : cs ≡ first_chunks 3 (length is / 3) is) (long : length cs ≡ length is / 3) (l : i < length cs) where
  corner_is : (j : ℕ) → j < 3 → corner_at cs i j ≡ get_or is (3 * i + j) 0
  corner_is j h = ap (λ (xs : List (List ℕ)). get_or (get_or xs i []) j 0) front ∙ chunk_at 3 (length is / 3) i j is 0 (omega (arith, long)) h

  first_is : corner_at cs i 0 ≡ get_or is (3 * i) 0
  first_is = let e : 3 * i + 0 ≡ 3 * i = omega arith in corner_is 0 (omega arith) ∙ ap (λ (k : ℕ). get_or is k 0) e

  -- its corners are vertices
  pub corners_within : (ps : List Float) → CornersInside ps is → Corners ps (corner_at cs i 0) (corner_at cs i 1) (corner_at cs i 2)
  corners_within ps w = record { in_a = inside 0 (omega arith); in_b = inside 1 (omega arith); in_c = inside 2 (omega arith) }
    where
      inside : (j : ℕ) → j < 3 → 3 * corner_at cs i j + 2 < length ps
      inside j h = subst (λ (x : ℕ). 3 * x + 2 < length ps) (sym (corner_is j h)) (w (3 * i + j) (omega (arith, long)))

  -- it is added
  pub summing_more : {ps : List Float} {flip : Bool} {v r : Float} → Summing ps is flip i v
      → r ≡ triangle_volume ps flip (record { a = corner_at cs i 0; b = corner_at cs i 1; c = corner_at cs i 2 }) → Summing ps is flip (i + 1) (add v r)
  unfolding sum_volumes
  summing_more {ps} {flip} {v} {r} s e =
      let next : 3 * (i + 1) ≡ 3 * i + 3 = omega arith in
      record {
        low = omega (arith, long);
        rest =
            ap (λ (k : ℕ). sum_volumes ps flip (add v r) (triangles_of (drop k is))) next
            ∙ ap (λ (x : Float). sum_volumes ps flip (add v x) (triangles_of (drop (3 * i + 3) is)))
            (e ∙ (λ j. triangle_volume ps flip (record { a = first_is j; b = corner_is 1 (omega arith) j; c = corner_is 2 (omega arith) j })))
            ∙ sym (ap (sum_volumes ps flip v) (triangles_more is (3 * i) (omega (arith, long)))) ∙ s.rest;
      }

-- every triangle is
pub summing_all : {ps : List Float} {is : List ℕ} {flip : Bool} {i : ℕ} {v : Float} → Summing ps is flip i v → length is / 3 ≤ i → div v six64 ≡ patch_volume ps is flip
unfolding patch_volume sum_volumes
summing_all {ps} {is} {flip} {i} {v} s h =
    ap (λ (x : Float). div x six64) (sym (ap (sum_volumes ps flip v) (triangles_none (drop (3 * i) is) (simp length-drop (omega arith)))) ∙ s.rest)

-- the determinant of three vertices
pub corners_are : {p q s p' q' s' : Vec3} {r : Float} → r ≡ det p q s → p ≡ p' → q ≡ q' → s ≡ s' → r ≡ det p' q' s'
corners_are e a b c = e ∙ (λ i. det (a i) (b i) (c i))

-- the value of a triangle, reversed
pub triangle_reversed : (ps : List Float) {flip : Bool} (a b c : ℕ) {r : Float} → flip ≡ true → r ≡ det (point_at ps a) (point_at ps c) (point_at ps b)
    → r ≡ triangle_volume ps flip (record { a = a; b = b; c = c })
triangle_reversed ps {flip} a b c t e = e ∙ sym (ap (λ (f : Bool). triangle_volume ps f (record { a = a; b = b; c = c })) t)

-- and as it stands
pub triangle_kept : (ps : List Float) {flip : Bool} (a b c : ℕ) {r : Float} → flip ≡ false → r ≡ det (point_at ps a) (point_at ps b) (point_at ps c)
    → r ≡ triangle_volume ps flip (record { a = a; b = b; c = c })
triangle_kept ps {flip} a b c t e = e ∙ sym (ap (λ (f : Bool). triangle_volume ps f (record { a = a; b = b; c = c })) t)

-- corners are vertices in another order too
pub corners_reversed : {ps : List Float} {a b c : ℕ} → Corners ps a b c → Corners ps a c b
corners_reversed k = record { in_a = k.in_a; in_b = k.in_c; in_c = k.in_b }
