-- The sums of a volume in f64: determinants over a patch, their sixth, and these over the patches, with the error step by step. Assumes nothing.
use Rattle.std.specs.Prelude.{◌≡◌, refl, ◌⊎◌, ℕ, zero, suc, ◌+◌, ◌*◌, ◌^◌, ◌≤◌, ◌<◌, Bool, true, false, pos, Float}
use Rattle.std.proofs.Common.{sym, ap, subst, inl, inr, mul-le-mul, mul-le-mul_right, mul-le-mul_left, eq-zero-or-pos, arith, lit<}
use Rattle.std.specs.Float.{fin, binary64}
use Rattle.std.specs.Float.Ieee.{add, div}
use Rattle.std.specs.Float.Ieee.Exact.{HasValue}
use Rattle.float_rounding.specs.Near.{Within, plus, less}
use Rattle.float_rounding.specs.Mul.{div_scaled}
use Rattle.float_rounding.specs.Approx.{Approx, top64, top64_is, size_le, recast, add_approx, both}

-- x / 6, for an x of size at most B
pub div_six : {x : Float} {c d e : ℕ} (y : Float) (B : ℕ) (r : Approx 1 x c d e) → HasValue y false 6 1 → r.size ≤ B → (r.size ≡ 0) ⊎ (6 * 2 ^ 53 ≤ B * 2) → B * 2 + 6 < top64
    → Approx 6 (div binary64 x y) c d (e + B)
div_six {x} {c} {d} {e} y B r six h z fine =
    let w = r.size in
    let o = div_scaled binary64 x y r.sign w 6 (lit< tt) r.is six (subst (λ (n : ℕ). w * 2 + 6 < n * 6) top64_is (omega arith)) in
    let b = both r.sign w w (omega arith) in
    let f = o.off B (record { hi = omega arith; lo = omega arith }) (go r.sign w z) in
    record { sign = o.sign; size = o.size; is = o.is; hi = omega (arith, f.hi, r.hi); lo = omega (arith, f.lo, r.lo) }
  where
    go : (s : Bool) (w : ℕ) → (w ≡ 0) ⊎ (6 * 2 ^ 53 ≤ B * 2) → (plus s w ≡ less s w) ⊎ (6 * 2 ^ 53 ≤ B * 2)
    go s w (inr g) = inr g
    go true w (inl g) = inl (sym g)
    go false w (inl g) = inl g

-- ---- x * k is near the sum c - d of n determinants, each of which is at most 96 * v in size; its error is a * n + b * n * n of v
-- v is a sixteenth of the size of a product of three coordinates, at most, in units
pub record Sum (k a b v n : ℕ) (x : Float) (c d : ℕ) : Type 0 where
  pub near : Approx k x c d ((a * n + b * (n * n)) * v)
  pub exact : Within c d (96 * n * v)

-- the sum of no determinant is +0
pub sum_zero : {k a b v : ℕ} → Sum k a b v 0 (fin false 0 (pos 0)) 0 0
sum_zero {k} {a} {b} {v} = record { near = record { sign = false; size = 0; is = (refl, refl); hi = omega arith; lo = omega arith }; exact = omega arith }

-- the size of a sum, where the error is a small part of it
sum_le : {k a b v n : ℕ} {x : Float} {c d : ℕ} (r : Sum k a b v n x c d) → a + b * n ≤ 2 ^ 53 → r.near.size * k ≤ 97 * n * v
sum_le {k} {a} {b} {v} {n} r l = size_le (97 * n * v) (96 * n * v) r.near r.exact (omega (arith, mul-le-mul_left (n * v) l))

-- a sum of n determinants and one of m, whose errors leave room for the rounding of their sum
sum_more : {k a b a' b' v n m : ℕ} {x y : Float} {c d c' d' : ℕ} → 0 < k → Sum k a b v n x c d → Sum k a' b' v m y c' d' → a + b * n ≤ 2 ^ 53 → a' + b' * m ≤ 2 ^ 53
    → a' * m + b' * (m * m) + 97 * (n + m) ≤ a * m + b * (2 * n * m + m * m) → n + m ≤ 2 ^ 40 → v * 2 ^ 60 + 2 ^ 60 < top64
    → Sum k a b v (n + m) (add binary64 x y) (c + c') (d + d')
sum_more {k} {a} {b} {a'} {b'} {v} {n} {m} {x} {y} {c} {d} {c'} {d'} K r t p q room l fine =
    let h = sum_le r p in
    let g = sum_le t q in
    record {
      near = recast (c + c') (d + d') ((a * (n + m) + b * ((n + m) * (n + m))) * v) refl refl (omega (arith, mul-le-mul_right v room))
          (add_approx (97 * (n + m) * v) K r.near t.near (omega arith) (omega (arith, mul-le-mul_right v l)));
      exact = omega (arith, r.exact.hi, r.exact.lo, t.exact.hi, t.exact.lo);
    }

-- one determinant
abbrev pub Determinant : ℕ → Float → ℕ → ℕ → Type 0
Determinant v = Sum 1 359 0 v 1

-- the sum of n determinants, in a patch
abbrev pub Patch : ℕ → ℕ → Float → ℕ → ℕ → Type 0
Patch v n = Sum 1 408 49 v n

-- its sixth
abbrev pub Part : ℕ → ℕ → Float → ℕ → ℕ → Type 0
Part v n = Sum 6 505 49 v n

-- the sum of the sixths of patches of n determinants in all
abbrev pub Total : ℕ → ℕ → Float → ℕ → ℕ → Type 0
Total v n = Sum 6 604 50 v n

-- a patch's sum with one more determinant
pub patch_more : (v n : ℕ) {x y : Float} {c d c' d' : ℕ} → Patch v n x c d → Determinant v y c' d' → n < 2 ^ 40 → v * 2 ^ 60 + 2 ^ 60 < top64 → Patch v (n + 1) (add binary64 x y) (c + c') (d + d')
patch_more v n r t l fine = sum_more (lit< tt) r t (omega arith) (omega arith) (omega arith) (omega arith) fine

-- a patch's sum divided by 6
pub patch_sixth : (v n : ℕ) {x : Float} {c d : ℕ} (y : Float) → HasValue y false 6 1 → Patch v n x c d → n ≤ 2 ^ 40 → (v ≡ 0) ⊎ (2 ^ 53 ≤ v) → v * 2 ^ 60 + 2 ^ 60 < top64
    → Part v n (div binary64 x y) c d
patch_sixth v n {x} {c} {d} y six r l z fine =
    let h : r.near.size ≤ 97 * n * v = omega (arith, sum_le r (omega arith)) in
    record {
      near = recast c d ((505 * n + 49 * (n * n)) * v) refl refl (omega arith) (div_six y (97 * n * v) r.near six h (go z (eq-zero-or-pos n) h) (omega (arith, mul-le-mul_right v l)));
      exact = r.exact;
    }
  where
    go : {w : ℕ} → (v ≡ 0) ⊎ (2 ^ 53 ≤ v) → (n ≡ 0) ⊎ (0 < n) → w ≤ 97 * n * v → (w ≡ 0) ⊎ (6 * 2 ^ 53 ≤ 97 * n * v * 2)
    go (inl e) m g = inl (omega (arith, g, ap (λ (a : ℕ). 97 * n * a) e))
    go (inr b) (inl e) g = inl (omega (arith, g, ap (λ (a : ℕ). 97 * a * v) e))
    go (inr b) (inr p) g = inr (omega (arith, mul-le-mul p b))

-- the sixths of some patches with one more
pub total_more : (v t n : ℕ) {x y : Float} {c d c' d' : ℕ} → Total v t x c d → Part v n y c' d' → 0 < n → t + n ≤ 2 ^ 40 → v * 2 ^ 60 + 2 ^ 60 < top64
    → Total v (t + n) (add binary64 x y) (c + c') (d + d')
total_more v t n r q p l fine = sum_more (lit< tt) r q (omega arith) (omega arith) (omega (arith, mul-le-mul_left t p)) l fine

-- the bound that is asked: 768 = 6 * 8 * 16
pub total_bound : (v t : ℕ) {x : Float} {c d : ℕ} → Total v t x c d → Approx 6 x c d (768 * (t * t) * v)
total_bound v t {x} {c} {d} r = recast c d (768 * (t * t) * v) refl refl (mul-le-mul_right v (square t)) r.near
  where
    square : (t : ℕ) → 604 * t + 50 * (t * t) ≤ 768 * (t * t)
    square zero = omega arith
    square (suc t) = omega arith
