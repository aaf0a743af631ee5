-- The whole number nearest to a square root: what `isqrt` and `nearest_root` compute. Assumes nothing.
use Rattle.std.specs.Prelude.{◌≡◌, Bool, true, false, not, cond, ℕ, zero, suc, ◌+◌, ◌-◌, ◌*◌, ◌/◌, ◌^◌, ◌≤◌, ◌<◌, T, leb, ltb}
use Rattle.std.proofs.Common.{subst, le_antisymm, lt_of_not-le, le_of_suc-le-suc, mul-le-mul, mul-le-mul_right, div-lt_iff_lt-mul, arith, leb→le, ltb→lt, nltb→le, lit<, lit≤}
use Rattle.std.proofs.Math.Nat.{pow-succ'}
use Rattle.std.proofs.Math.Dec.{nleb→lt}
use Rattle.float_sqrt.specs.Roots.{isqrt, nearest_root}

-- s is the whole part of the square root of n
pub record Whole (n s : ℕ) : Type 0 where
  pub lo : s * s ≤ n
  pub hi : n < (s + 1) * (s + 1)

-- q is the whole number nearest to the square root of n, for an n above 0: (q - 1/2) ^ 2 is q * q - q + 1/4, and so for q + 1/2
pub record Near (n q : ℕ) : Type 0 where
  pub lo : q * q < n + q
  pub hi : n ≤ q * q + q

pub isqrt_whole : (k n : ℕ) → n < 4 ^ k → Whole n (isqrt k n)
unfolding isqrt
isqrt_whole zero n h = omega arith
isqrt_whole (suc k) n h = go (isqrt k (n / 4)) (isqrt_whole k (n / 4) ((div-lt_iff_lt-mul (lit< tt)).1 (less (4 ^ k) (subst (λ (z : ℕ). n < z) (pow-succ' 4 k) h))))
  where
    less : (p : ℕ) → n < 4 * p → n < p * 4
    less p l = omega arith

    go : (t : ℕ) → Whole (n / 4) t → Whole n (cond (leb ((2 * t + 1) * (2 * t + 1)) n) (2 * t + 1) (2 * t))
    go t w = at (leb ((2 * t + 1) * (2 * t + 1)) n) (leb→le ((2 * t + 1) * (2 * t + 1)) n) (nleb→lt ((2 * t + 1) * (2 * t + 1)) n)
      where
        at : (b : Bool) → (T b → (2 * t + 1) * (2 * t + 1) ≤ n) → (T (not b) → n < (2 * t + 1) * (2 * t + 1)) → Whole n (cond b (2 * t + 1) (2 * t))
        at true l g = let e = l tt in record { lo = e; hi = omega (arith, w.hi) }
        at false l g = let e = g tt in record { lo = omega (arith, w.lo); hi = e }

whole_le : (n s t : ℕ) → Whole n s → Whole n t → s ≤ t
whole_le n s t p q = le_of_suc-le-suc (lt_of_not-le (λ (g : suc t ≤ s). no g (mul-le-mul g g)))
  where
    no : suc t ≤ s → suc t * suc t ≤ s * s → ⊥
    no g l = omega (arith, p.lo, q.hi)

pub whole_unique : (n s t : ℕ) → Whole n s → Whole n t → s ≡ t
whole_unique n s t p q = le_antisymm (whole_le n s t p q) (whole_le n t s q p)

-- ---- the nearest one
-- n is s * s + r, and the root goes up where r is above s
pub up_near : (n s r : ℕ) → n ≡ s * s + r → r ≤ 2 * s → s < r → Near n (s + 1)
up_near n s r e h l = omega arith

pub down_near : (n s r : ℕ) → 0 < n → n ≡ s * s + r → r ≤ s → Near n s
down_near n zero r p e h = omega arith
down_near n (suc s) r p e h = omega arith

pub nearest_near : (n : ℕ) → 0 < n → n < 4 ^ 53 → Near n (nearest_root n)
nearest_near n p h = go (isqrt 53 n) (isqrt_whole 53 n h)
  where
    go : (s : ℕ) → Whole n s → Near n (cond (ltb s (n - s * s)) (s + 1) s)
    go s w = at (ltb s (n - s * s)) (ltb→lt s (n - s * s)) (nltb→le s (n - s * s))
      where
        split : n ≡ s * s + (n - s * s)
        split = omega (arith, w.lo)

        at : (b : Bool) → (T b → s < n - s * s) → (T (not b) → n - s * s ≤ s) → Near n (cond b (s + 1) s)
        at true l g = up_near n s (n - s * s) split (omega (arith, w.hi)) (l tt)
        at false l g = down_near n s (n - s * s) p split (g tt)

near_le : (n p q : ℕ) → Near n p → Near n q → p ≤ q
near_le n p q a b = le_of_suc-le-suc (lt_of_not-le (λ (g : suc q ≤ p). no g (mul-le-mul_right p g)))
  where
    no : suc q ≤ p → suc q * p ≤ p * p → ⊥
    no g l = less p q a.lo b.hi g (mul-le-mul g g) (mul-le-mul_right q g) l
      where
        less : (p q : ℕ) → p * p < n + p → n ≤ q * q + q → suc q ≤ p → suc q * suc q ≤ p * p → suc q * q ≤ p * q → suc q * p ≤ p * p → ⊥
        less p q a b g l m k = omega arith

pub near_unique : (n p q : ℕ) → Near n p → Near n q → p ≡ q
near_unique n p q a b = le_antisymm (near_le n p q a b) (near_le n q p b a)

-- ---- the root of a number of 105 or 106 binary digits has 53
pub near_from : (n q : ℕ) → 2 ^ 104 ≤ n → Near n q → 2 ^ 52 ≤ q
near_from n q h w = le_of_suc-le-suc (lt_of_not-le (λ (g : suc q ≤ 2 ^ 52). no (mul-le-mul g g)))
  where
    no : suc q * suc q ≤ 2 ^ 52 * 2 ^ 52 → ⊥
    no g = omega (arith, w.hi)

pub near_below : (n q : ℕ) → n ≤ 2 ^ 106 - 2 ^ 53 → Near n q → q < 2 ^ 53
near_below n q h w = lt_of_not-le (λ (g : 2 ^ 53 ≤ q). no (2 ^ 53) (q - 2 ^ 53) (mul-le-mul_right (q - 2 ^ 53) (lit≤ {m = 1} {n = 2 ^ 53} tt)) (subst (λ (z : ℕ). z * z < n + z) (back g) w.lo)
    (omega arith))
  where
    back : 2 ^ 53 ≤ q → q ≡ 2 ^ 53 + (q - 2 ^ 53)
    back g = omega arith

    no : (p d : ℕ) → 1 * d ≤ p * d → (p + d) * (p + d) < n + (p + d) → n + p ≤ p * p → ⊥
    no p d k l m = omega arith
