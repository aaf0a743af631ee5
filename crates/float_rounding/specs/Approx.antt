-- f64 values near exact ones, and how the error grows by a sum, a difference and a product with an f32 coordinate. Assumes nothing.
use Rattle.std.specs.Prelude.{◌≡◌, refl, ◌⊎◌, ℕ, ◌+◌, ◌*◌, ◌^◌, ◌≤◌, ◌<◌, Bool, true, false, not, cond, Float}
use Rattle.std.proofs.Common.{sym, subst, inl, inr, lt_of_le_of_lt, mul-le-mul_left, mul-le-mul_right, le_of_mul-le-mul_right, mul-lt-mul_of_pos_right, arith, pow_pos}
use Rattle.std.specs.Float.{binary64}
use Rattle.std.specs.Float.Ieee.{unlike, neg, add, sub, mul}
use Rattle.std.specs.Float.Ieee.Exact.{HasValue}
use Rattle.std.specs.Float.Ieee.Scale.{overflow}
use Rattle.float_rounding.specs.Near.{Within, plus, less, Off}
use Rattle.float_rounding.specs.Add.{add_rounded, neg_value}
use Rattle.float_rounding.specs.Mul.{mul_scaled}

-- from 2 ^ 2098 units on an f64 is an infinity. Shut, so that `omega` takes it for a number that it does not know
unfoldable pub top64 : ℕ
top64 = 2 ^ 2098

pub top64_is : top64 ≡ 2 ^ 2098
unfolding top64
top64_is = refl

-- x * k is off c - d, in units of 2 ^ -1074, by at most e / 2 ^ 53
pub record Approx (k : ℕ) (x : Float) (c d e : ℕ) : Type 0 where
  pub sign : Bool
  pub size : ℕ
  pub is : HasValue x sign size (2 ^ 1074)
  pub hi : (plus sign size * k + d) * 2 ^ 53 ≤ (c + less sign size * k) * 2 ^ 53 + e
  pub lo : (c + less sign size * k) * 2 ^ 53 ≤ (plus sign size * k + d) * 2 ^ 53 + e

-- a size times k, from the bounds of the difference
sized : (s : Bool) (k a B : ℕ) → plus s a * k ≤ less s a * k + B → less s a * k ≤ plus s a * k + B → a * k ≤ B
sized true k a B h l = omega arith
sized false k a B h l = omega arith

-- and the other way
pub both : (s : Bool) (a B : ℕ) → a ≤ B → (plus s a ≤ B) × (less s a ≤ B)
both true a B h = omega arith
both false a B h = omega arith

-- |x * k| ≤ B, from |c - d| ≤ b and the error
pub size_le : {k : ℕ} {x : Float} {c d e : ℕ} (B b : ℕ) (r : Approx k x c d e) → Within c d b → b * 2 ^ 53 + e ≤ B * 2 ^ 53 → r.size * k ≤ B
size_le {k} {x} {c} {d} {e} B b r z h = sized r.sign k r.size B (omega (arith, r.hi, z.hi)) (omega (arith, r.lo, z.lo))

-- the same with its numbers written otherwise, and a larger error
pub recast : {k : ℕ} {x : Float} {c d e : ℕ} (c' d' e' : ℕ) → c ≡ c' → d ≡ d' → e ≤ e' → Approx k x c d e → Approx k x c' d' e'
recast {k} {x} {c} {d} {e} c' d' e' p q l r = record { sign = r.sign; size = r.size; is = r.is; hi = omega (arith, r.hi, p, q, l); lo = omega (arith, r.lo, p, q, l) }

-- what is below `top64` does not overflow
pub under : (w : ℕ) → w < top64 → w < overflow binary64
under w h = subst (λ (z : ℕ). w < z) top64_is h

-- ---- the sum and the difference
-- the errors of a sum add up, and rounding it adds a bound of the sizes
pub add_approx : {k : ℕ} {x y : Float} {c d e c' d' e' : ℕ} (B : ℕ) → 0 < k → (r : Approx k x c d e) (t : Approx k y c' d' e') → r.size * k + t.size * k ≤ B → B * 2 < top64
    → Approx k (add binary64 x y) (c + c') (d + d') (e + e' + B)
add_approx {k} {x} {y} {c} {d} {e} {c'} {d'} {e'} B K r t h fine =
    let w = r.size + t.size in
    let l : w ≤ w * k = omega (arith, mul-le-mul_left w K) in
    let z = add_rounded binary64 x y r.sign r.size t.sign t.size r.is t.is (under (w * 2) (omega arith)) in
    let p = both r.sign r.size r.size (omega arith) in
    let q = both t.sign t.size t.size (omega arith) in
    let o = z.off w (record { hi = omega arith; lo = omega arith }) in
    record {
      sign = z.sign;
      size = z.size;
      is = z.is;
      hi = omega (arith, mul-le-mul_right k o.hi, r.hi, t.hi);
      lo = omega (arith, mul-le-mul_right k o.lo, r.lo, t.lo);
    }

-- the other sign of x has the other sign of c - d
neg_approx : {k : ℕ} {x : Float} {c d e : ℕ} → Approx k x c d e → Approx k (neg x) d c e
neg_approx {k} {x} {c} {d} {e} r =
    let p = turned r.sign r.size in
    record {
      sign = not r.sign;
      size = r.size;
      is = neg_value x r.sign r.size (2 ^ 1074) r.is;
      hi = rw (p.0, p.1) (omega (arith, r.lo));
      lo = rw (p.0, p.1) (omega (arith, r.hi));
    }
  where
    turned : (s : Bool) (a : ℕ) → (plus (not s) a ≡ less s a) × (less (not s) a ≡ plus s a)
    turned true a = (refl, refl)
    turned false a = (refl, refl)

-- a difference is the sum with the other sign
pub sub_approx : {k : ℕ} {x y : Float} {c d e c' d' e' : ℕ} (B : ℕ) → 0 < k → (r : Approx k x c d e) (t : Approx k y c' d' e') → r.size * k + t.size * k ≤ B → B * 2 < top64
    → Approx k (sub binary64 x y) (c + d') (d + c') (e + e' + B)
unfolding sub neg_approx
sub_approx B K r t h fine = add_approx B K r (neg_approx t) h fine

-- ---- the product with a coordinate: x is A / 2 ^ 149, with the sign s, and y is near (c - d) * 2 ^ 149 units
unfoldable pub unit32 : ℕ
unit32 = 2 ^ 149

pub unit32_is : unit32 ≡ 2 ^ 149
unfolding unit32
unit32_is = refl

pub unit32_pos : 0 < unit32
unfolding unit32
unit32_pos = pow_pos 149

-- x - y is near A times p - m, in which U is taken out of c - d and of the error
through : (U x y A p m c d e u v : ℕ) → 0 < U → Off (2 ^ 53) (x * U) (y * U) (A * p) (A * m) (U * u) → Off (2 ^ 53) p m (U * c) (U * d) e → A * e ≤ U * v → Off (2 ^ 53) x y (A * c) (A * d) (u + v)
through U x y A p m c d e u v Z o h k = record {
  hi = le_of_mul-le-mul_right (omega (arith, o.hi, mul-le-mul_left A h.hi)) Z;
  lo = le_of_mul-le-mul_right (omega (arith, o.lo, mul-le-mul_left A h.lo)) Z;
}

-- a sign times a difference
abbrev pub turn_p : Bool → ℕ → ℕ → ℕ
turn_p s a b = cond s b a

sign_mul : (s t : Bool) (A D : ℕ) → (plus (unlike s t) (A * D) ≡ turn_p s (A * plus t D) (A * less t D)) × (less (unlike s t) (A * D) ≡ turn_p s (A * less t D) (A * plus t D))
sign_mul true true A D = omega arith
sign_mul true false A D = omega arith
sign_mul false true A D = omega arith
sign_mul false false A D = omega arith

-- the same at either sign of the coordinate
finish : (s t : Bool) (U x y A D c d e u v : ℕ) → 0 < U → Off (2 ^ 53) (x * U) (y * U) (plus (unlike s t) (A * D)) (less (unlike s t) (A * D)) (U * u)
    → Off (2 ^ 53) (plus t D) (less t D) (U * c) (U * d) e → A * e ≤ U * v → Off (2 ^ 53) x y (turn_p s (A * c) (A * d)) (turn_p s (A * d) (A * c)) (u + v)
finish s t U x y A D c d e u v Z o h k = let w = sign_mul s t A D in go s (plus t D) (less t D) (rw (w.0, w.1) at o) h
  where
    go : (s : Bool) (p m : ℕ) → Off (2 ^ 53) (x * U) (y * U) (turn_p s (A * p) (A * m)) (turn_p s (A * m) (A * p)) (U * u) → Off (2 ^ 53) p m (U * c) (U * d) e
        → Off (2 ^ 53) x y (turn_p s (A * c) (A * d)) (turn_p s (A * d) (A * c)) (u + v)
    go false p m o h = through U x y A p m c d e u v Z o h k
    go true p m o h = through U x y A m p d c e u v Z o (omega arith) k

-- the product of x with y, whose error is u for the rounding and v for that of y
pub mul_approx : (x : Float) {y : Float} (s : Bool) (A c d : ℕ) {e : ℕ} (u v : ℕ) → HasValue x s A unit32 → (r : Approx 1 y (unit32 * c) (unit32 * d) e)
    → A * r.size ≤ unit32 * u → A * e ≤ unit32 * v → (A * r.size ≡ 0) ⊎ (2 ^ 53 ≤ u * 2) → u * 2 + 1 < top64
    → Approx 1 (mul binary64 x y) (turn_p s (A * c) (A * d)) (turn_p s (A * d) (A * c)) (u + v)
mul_approx x {y} s A c d {e} u v h r k l z fine =
    let D = r.size in
    let t = r.sign in
    let U = unit32 in
    let w = A * D in
    let lt : w * 2 + U < top64 * U = lt_of_le_of_lt (small U w k) (mul-lt-mul_of_pos_right fine unit32_pos) in
    let o = mul_scaled binary64 x y s A U t D unit32_pos h r.is (subst (λ (n : ℕ). w * 2 + U < n * U) top64_is lt) in
    let b = both (unlike s t) w w (omega arith) in
    let f = o.off (U * u) (record { hi = omega arith; lo = omega arith }) (go (unlike s t) w U z) in
    let z' = finish s t U (plus o.sign o.size) (less o.sign o.size) A D c d e u v unit32_pos f (omega (arith, r.hi, r.lo)) l in
    record { sign = o.sign; size = o.size; is = o.is; hi = omega (arith, z'.hi); lo = omega (arith, z'.lo) }
  where
    small : (U w : ℕ) → w ≤ U * u → w * 2 + U ≤ (u * 2 + 1) * U
    small U w h = omega arith

    go : (b : Bool) (w U : ℕ) → (w ≡ 0) ⊎ (2 ^ 53 ≤ u * 2) → (plus b w ≡ less b w) ⊎ (U * 2 ^ 53 ≤ U * u * 2)
    go b w U (inr g) = inr (omega (arith, mul-le-mul_left U g))
    go true w U (inl g) = inl (sym g)
    go false w U (inl g) = inl g
