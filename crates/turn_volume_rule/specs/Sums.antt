-- The sum over a patch's triangles, its sixth, and the sum over rows, against the exact whole numbers. Assumes nothing.
use Rattle.std.specs.Prelude.{◌≡◌, refl, ◌⊎◌, Bool, true, false, cond, ℤ, pos, ◌+ℤ◌, Float}
use Rattle.std.proofs.Common.{sym, ap, ◌∙◌, inl, inr, mul-add, add-zero, eq-zero-or-pos, zero-mul, zero-add, add_assoc}
use Rattle.std.proofs.Math.Path.{subst}
use mathlib.Core.List.{List, [], ◌∷◌, map}
use Prim.Native.Nat.{ℕ, suc, ◌+◌, ◌*◌, ◌^◌, ◌≤◌, ◌<◌}
use native.Mathlib.Omega.{arith}
use Rattle.std.proofs.Math.Dec.{eqb}
use Rattle.std.proofs.Math.ListN.{get_or, length}
use Rattle.std.proofs.Math.IntN.{+ℤ_assoc, +ℤ_idr, +ℤ_idl}
use Rattle.std.specs.Float.{fin}
use Rattle.std.specs.Float.Ieee.{of_bits}
use Rattle.std.specs.Float.Ieee.Exact.{HasValue}
use Rattle.float_rounding.specs.Tri.{sixteenth, Fine, v_big}
use Rattle.float_rounding.specs.Sum.{Determinant, Patch, Part, Total, sum_zero, patch_more, patch_sixth, total_more}
use Rattle.body_rows.specs.Body as Body
use Rattle.body_rows.specs.Body.{Triangle, triangles_of}
use Rattle.patch_geometry.specs.Geometry as G
use Rattle.patch_measures.specs.Volume.{sum_volumes, patch_volume, triangle_volume, reversed}
use Rattle.patch_geometry.specs.Geometry.{zero64, six64}
use Rattle.turn_definition.specs.Inversion.{patch_at, volume_from}
use Rattle.turn_walk.specs.Walk.{coloured, unvisited}
use Rattle.turn_volume_rule.specs.Exact.{whole_at, exact_det, exact_triangles, exact_rows, triangles_in}
use Rattle.turn_volume_rule.specs.Ints.{Is, is_pos, is_add}
use Rattle.turn_volume_rule.specs.Sign as Sign
use Rattle.turn_volume_rule.specs.Sign.{All}
use Rattle.turn_volume_rule.specs.Det.{Corner, corners_d, whole_det, corners_near}

-- x lies as near as S says to the whole number z, in units
pub record At (S : Float → ℕ → ℕ → Type 0) (x : Float) (z : ℤ) : Type 0 where
  pub p : ℕ
  pub m : ℕ
  pub is : Is z p m
  pub near : S x (16 * sixteenth * p) (16 * sixteenth * m)

-- what holds of +0 and nothing holds at the whole number 0
at_none : {S : Float → ℕ → ℕ → Type 0} → S (fin false 0 (pos 0)) 0 0 → At S zero64 (pos 0)
unfolding of_bits sixteenth
at_none h = record { p = 0; m = 0; is = is_pos 0; near = h }

-- n more than none are n, and w more than 0 is w
pub from_none : (S : ℕ → Float → ℕ → ℕ → Type 0) {n : ℕ} {x : Float} {w : ℤ} → At (S (0 + n)) x (pos 0 +ℤ w) → At (S n) x w
from_none S r = rw (zero-add, +ℤ_idl) at r

-- what holds of the sum of two values holds at the sum of their whole numbers
at_sum : {S R Q : Float → ℕ → ℕ → Type 0} {x y : Float} {z w : ℤ} → ((c d c' d' : ℕ) → S x c d → R y c' d' → Q (G.add x y) (c + c') (d + d')) → At S x z → At R y w → At Q (G.add x y) (z +ℤ w)
at_sum {z = z} {w = w} f r t = record {
  p = r.p + t.p;
  m = r.m + t.m;
  is = is_add z w r.is t.is;
  near = rw (mul-add (16 * sixteenth) r.p t.p, mul-add (16 * sixteenth) r.m t.m) (f _ _ _ _ r.near t.near);
}

-- the sum x of n determinants, whose exact sum is z
abbrev pub PatchAt : ℕ → ℕ → Float → ℤ → Type 0
PatchAt v n = At (Patch v n)

-- the sum x of sixths, of t determinants, whose exact sum is z
abbrev pub TotalAt : ℕ → ℕ → Float → ℤ → Type 0
TotalAt v t = At (Total v t)

-- every index is of a good corner
abbrev pub Corners : ℕ → List Float → List ℕ → Type 0
Corners M ps = All (Corner M ps)

-- a row has triangles, all with good corners
pub record RowGood (M : ℕ) (patches : List Body.Patch) (n : ℕ) : Type 0 where
  pub corners : Corners M (patch_at patches n).positions (patch_at patches n).indices
  pub some : 0 < length (triangles_of (patch_at patches n).indices)

-- ---- one triangle
-- what exactTriangles adds for a triangle
abbrev pub exact_triangle : List Float → Bool → Triangle → ℤ
exact_triangle ps flip t = let u = cond flip (reversed t) t in exact_det (whole_at ps u.a) (whole_at ps u.b) (whole_at ps u.c)

module _ (M : ℕ) (fine : Fine M) where
  abbrev v : ℕ
  v = M * M * M * sixteenth

  triangle : (ps : List Float) (flip : Bool) {a b c : ℕ} → Corner M ps a → Corner M ps b → Corner M ps c
      → At (Determinant v) (triangle_volume ps flip (record { a = a; b = b; c = c })) (exact_triangle ps flip (record { a = a; b = b; c = c }))
  triangle ps true {a} {b} {c} A B C = record { p = (corners_d ps a c b).p; m = (corners_d ps a c b).m; is = whole_det ps a c b; near = corners_near M fine ps A C B }
  triangle ps false {a} {b} {c} A B C = record { p = (corners_d ps a b c).p; m = (corners_d ps a b c).m; is = whole_det ps a b c; near = corners_near M fine ps A B C }

  -- ---- a patch's triangles
  pub sum_near : (ps : List Float) (flip : Bool) (is : List ℕ) {n : ℕ} {x : Float} {z : ℤ} → Corners M ps is → PatchAt v n x z → n + length (triangles_of is) ≤ 2 ^ 40
      → PatchAt v (n + length (triangles_of is)) (sum_volumes ps flip x (triangles_of is)) (z +ℤ exact_triangles ps flip (triangles_of is))
  unfolding triangles_of sum_volumes exact_triangles
  sum_near ps flip [] {n} {x} {z} g r l = rw (add-zero, +ℤ_idr) r
  sum_near ps flip (a ∷ []) {n} {x} {z} g r l = rw (add-zero, +ℤ_idr) r
  sum_near ps flip (a ∷ b ∷ []) {n} {x} {z} g r l = rw (add-zero, +ℤ_idr) r
  sum_near ps flip (a ∷ b ∷ c ∷ is) {n} {x} {z} (Sign.more A (Sign.more B (Sign.more C g))) r l =
      let t : Triangle = record { a = a; b = b; c = c } in
      let e : n + suc (length (triangles_of is)) ≡ n + 1 + length (triangles_of is) = omega arith in
      let o = sum_near ps flip is g (at_sum (λ c d c' d' p q. patch_more v n p q (omega arith) fine.three) r (triangle ps flip A B C)) (omega arith) in
      subst (λ (k : ℕ). PatchAt v k (sum_volumes ps flip (G.add x (triangle_volume ps flip t)) (triangles_of is)) (z +ℤ (exact_triangle ps flip t +ℤ exact_triangles ps flip (triangles_of is)))) (sym e)
      (subst (λ (w : ℤ). PatchAt v (n + 1 + length (triangles_of is)) (sum_volumes ps flip (G.add x (triangle_volume ps flip t)) (triangles_of is)) w)
      (+ℤ_assoc z (exact_triangle ps flip t) (exact_triangles ps flip (triangles_of is))) o)

  pub total_none : TotalAt v 0 zero64 (pos 0)
  total_none = at_none sum_zero

  six_value : HasValue six64 false 6 1
  unfolding of_bits
  six_value = (refl, refl)

  big : (v ≡ 0) ⊎ (2 ^ 53 ≤ v)
  big = go (eq-zero-or-pos M)
    where
      go : (M ≡ 0) ⊎ (0 < M) → (v ≡ 0) ⊎ (2 ^ 53 ≤ v)
      go (inl z) = inl (ap (λ (x : ℕ). x * x * x * sixteenth) z ∙ zero-mul sixteenth)
      go (inr h) = inr (v_big M fine h)

  -- ---- a patch's sixth, and the rows of a walk
  pub total_patch : (ps : List Float) (flip : Bool) (is : List ℕ) {t : ℕ} {x : Float} {z : ℤ} → Corners M ps is → 0 < length (triangles_of is) → TotalAt v t x z → t + length (triangles_of is) ≤ 2 ^ 40
      → TotalAt v (t + length (triangles_of is)) (G.add x (patch_volume ps is flip)) (z +ℤ exact_triangles ps flip (triangles_of is))
  unfolding patch_volume
  total_patch ps flip is {t} {x} {z} g h r l =
      let n = length (triangles_of is) in
      let y = sum_volumes ps flip zero64 (triangles_of is) in
      let w = exact_triangles ps flip (triangles_of is) in
      let o = from_none (Patch v) (sum_near ps flip is g (at_none sum_zero) (omega arith)) in
      let q : At (Part v n) (G.div y six64) w = record { p = o.p; m = o.m; is = o.is; near = patch_sixth v n six64 six_value o.near (omega arith) big fine.three } in
      at_sum (λ c d c' d' a b. total_more v t n a b h l fine.three) r q

  pub rows_near : (patches : List Body.Patch) (colours : List ℕ) (rows : List ℕ) {t : ℕ} {x : Float} {z : ℤ} → All (RowGood M patches) rows → TotalAt v t x z → t + triangles_in patches rows ≤ 2 ^ 40
      → TotalAt v (t + triangles_in patches rows) (volume_from patches colours x rows) (z +ℤ exact_rows patches rows (map (λ n. get_or colours n unvisited) rows))
  unfolding triangles_in volume_from exact_rows
  rows_near patches colours [] {t} {x} {z} g r l = rw (add-zero, +ℤ_idr) r
  rows_near patches colours (n ∷ ns) {t} {x} {z} (Sign.more w g) r l =
      let p = patch_at patches n in
      let flip = eqb (get_or colours n unvisited) coloured in
      let k = length (triangles_of p.indices) in
      let y = volume_from patches colours (G.add x (patch_volume p.positions p.indices flip)) ns in
      let a = exact_triangles p.positions flip (triangles_of p.indices) in
      let b = exact_rows patches ns (map (λ n. get_or colours n unvisited) ns) in
      let o = rows_near patches colours ns g (total_patch p.positions flip p.indices w.corners w.some r (omega arith)) (omega arith) in
      subst (λ (j : ℕ). TotalAt v j y (z +ℤ (a +ℤ b))) (add_assoc t k (triangles_in patches ns))
      (subst (λ (w : ℤ). TotalAt v (t + k + triangles_in patches ns) y w) (+ℤ_assoc z a b) o)
