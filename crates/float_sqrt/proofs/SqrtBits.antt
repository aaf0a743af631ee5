-- The bit pattern of a square root: the digits of the root under its exponent's field, and the special values. Assumes nothing.
use mathlib.Core.Path.{◌≡◌, refl, sym, ap, ◌∙◌, subst}
use mathlib.Core.Logic.{inr}
use mathlib.Core.Bool.{Bool, true, false, true≢false}
use Prim.Native.Nat.{ℕ, zero, suc, ◌+◌, ◌-◌, ◌*◌, ◌/◌, ◌%◌, ◌^◌, ◌≤◌, ◌<◌, compare, Ordering}
use native.Mathlib.Nat.{le_trans, le_of_eq, le_of_lt, mul_assoc, mul-one, mul-le-mul_right, zero-add, zero-mul, mul-pos, lt_of_not-le, not-le_of_lt, lt_irrefl, zero-lt-suc}
use native.Mathlib.Omega.{arith}
use borrow.Author.Tests.{lt-leb, le-leb}
use lib.Count.{count_leading_zeros, leading_top}
use lib.Dec.{T}
use lib.Pow.{pow_pos, pow_mono, shl_lt}
use lib.Ieee.{Float, nan, inf, fin, binary64, up, down, fits, of_bits, to_bits}
use lib.Ieee.Exact.{HasValue}
use lib.Ieee.Fits.{up_pos, down_pos, nan-fits, inf-fits}
use Rattle.float_rounding.specs.Fields.{digits, nan_above}
use Rattle.float_rounding.specs.Near.{Cmp, cmp}
use Rattle.float_rounding.specs.Pattern.{exact_bits}
use Rattle.float_rounding.specs.Shift.{product}
use Rattle.float_sqrt.specs.Roots.{nearest_root, root_of, sqrt, sqrt_bits}
use Rattle.float_sqrt.specs.Root.{nearest_near, near_below}
use Rattle.float_sqrt.specs.SquareRoot.{Rooted, sqrt_value}
use Rattle.float_sqrt.specs.RootOrder.{rounded_root}
use Rattle.float_steps.specs.Patterns.{sign, field, tail, all, all_is, value, infinite, bits_again}

-- ---- the pattern of a root of 53 digits
pub root_pattern : {n k N q : ℕ} → Rooted n k N q → to_bits binary64 (root_of n) ≡ k * 2 ^ 52 + q
root_pattern {n} {k} {N} {q} r = exact_bits binary64 (root_of n) false q k r.is (inr r.from) (le_of_lt r.below) ∙ zero-add (k * 2 ^ 52 + q)

-- ---- a subnormal value's digits moved up until the leading one is the 53rd
pub record Moved (b : ℕ) : Type 0 where
  pub from : 12 ≤ count_leading_zeros 64 b
  pub most : count_leading_zeros 64 b ≤ 63
  pub lo : 2 ^ 52 ≤ b * 2 ^ (count_leading_zeros 64 b - 11)
  pub hi : b * 2 ^ (count_leading_zeros 64 b - 11) < 2 ^ 53

pub above_zero : (b : ℕ) → (b % 2 ^ 63 ≡ 0 → ⊥) → 0 < b
above_zero zero n = absurd (n refl)
above_zero (suc b) n = zero-lt-suc b

pub moved : (b : ℕ) → 0 < b → b < 2 ^ 52 → Moved b
moved b p h = go (leading_top 64 b p (omega arith))
  where
    go : (j : ℕ) × (count_leading_zeros 64 b + suc j ≡ 64) × (2 ^ j ≤ b) × (b < 2 ^ suc j) → Moved b
    go (j, e, lo, hi) = record {
      from = omega (arith, few);
      most = omega arith;
      lo = subst (λ (z : ℕ). z ≤ b * 2 ^ (count_leading_zeros 64 b - 11)) (product j (count_leading_zeros 64 b - 11) 52 (omega (arith, few))) (mul-le-mul_right (2 ^ (count_leading_zeros 64 b - 11)) lo);
      hi = subst (λ (z : ℕ). b * 2 ^ (count_leading_zeros 64 b - 11) < 2 ^ z) top (shl_lt (suc j) (count_leading_zeros 64 b - 11) hi);
    }
      where
        few : j < 52
        few = lt_of_not-le (λ (g : 52 ≤ j). not-le_of_lt h (le_trans (pow_mono g) lo))

        top : suc j + (count_leading_zeros 64 b - 11) ≡ 53
        top = omega (arith, few)

-- a root of 53 digits
pub nearest_lt : (n : ℕ) → 2 ^ 52 ≤ n → n ≤ 2 ^ 54 - 2 → nearest_root (n * 2 ^ 52) < 2 ^ 53
nearest_lt n lo hi = near_below (n * 2 ^ 52) (nearest_root (n * 2 ^ 52)) (omega arith) (nearest_near (n * 2 ^ 52) (omega arith) (omega arith))

-- ---- the special values
pub sqrt_fits : (x : Float) → T (fits binary64 x) → T (fits binary64 (sqrt x))
unfolding sqrt
sqrt_fits nan f = nan-fits binary64
sqrt_fits (inf true) f = nan-fits binary64
sqrt_fits (inf false) f = inf-fits binary64 false
sqrt_fits (fin s zero e) f = f
sqrt_fits (fin true (suc m) e) f = nan-fits binary64
sqrt_fits (fin false (suc m) e) f = rounded_root (suc m * up e * 4 ^ 1074 / down e)

zero_root : (x : Float) (s : Bool) → HasValue x s 0 (2 ^ 1074) → sqrt x ≡ x
unfolding sqrt
zero_root nan s v = absurd v
zero_root (inf t) s v = absurd v
zero_root (fin t zero e) s v = refl
zero_root (fin t (suc m) e) s v = absurd (lt_irrefl 0 (subst (λ (z : ℕ). 0 < z) (v.1 ∙ zero-mul (down e)) (mul-pos (mul-pos (zero-lt-suc m) (up_pos e)) (pow_pos 1074))))

negative_root : (x : Float) (a : ℕ) → HasValue x true a (2 ^ 1074) → 0 < a → sqrt x ≡ nan
unfolding sqrt
negative_root nan a v p = absurd v
negative_root (inf t) a v p = absurd v
negative_root (fin false m e) a v p = absurd (true≢false (sym v.0))
negative_root (fin true zero e) a v p = absurd (lt_irrefl 0 (subst (λ (z : ℕ). 0 < z) (sym v.1 ∙ ap (λ (z : ℕ). z * 2 ^ 1074) (zero-mul (up e)) ∙ zero-mul (2 ^ 1074)) (mul-pos p (down_pos e))))
negative_root (fin true (suc m) e) a v p = refl

infinite_root : sqrt (inf false) ≡ inf false
unfolding sqrt
infinite_root = refl

minus_infinite_root : sqrt (inf true) ≡ nan
unfolding sqrt
minus_infinite_root = refl

nan_root : sqrt nan ≡ nan
unfolding sqrt
nan_root = refl

nan_pattern : to_bits binary64 nan ≡ 0x7ff8_0000_0000_0000
unfolding to_bits
nan_pattern = refl

-- ---- by the bits of the f64
module _ (b : ℕ) where
  positive : b < 2 ^ 63 → sign b ≡ false
  positive h = lt-leb (2 ^ 63) b h

  by_value : (a e : ℕ) → b < 2047 * 2 ^ 52 → 0 < all b → all b * 2 ^ (field b - 1) * 2 ^ 1074 ≡ a * 2 ^ e → sqrt_bits b ≡ to_bits binary64 (root_of (a * 2 ^ e))
  by_value a e h p q =
      ap (to_bits binary64) (sqrt_value (of_bits binary64 b) (all b * 2 ^ (field b - 1))
      (subst (λ (s : Bool). HasValue (of_bits binary64 b) s (all b * 2 ^ (field b - 1)) (2 ^ 1074)) (positive (omega arith)) (value b (omega arith))) (mul-pos p (pow_pos (field b - 1)))
      ∙ ap root_of q)

  pub sqrt_normal : 2 ^ 52 ≤ b → b < 2047 * 2 ^ 52 → sqrt_bits b ≡ to_bits binary64 (root_of ((2 ^ 52 + b % 2 ^ 52) * 2 ^ (b / 2 ^ 52 + 1073)))
  sqrt_normal l h =
      by_value (2 ^ 52 + b % 2 ^ 52) (b / 2 ^ 52 + 1073) h (subst (λ (z : ℕ). 0 < z) (sym normal) (omega arith))
      (ap (λ (z : ℕ). z * 2 ^ (field b - 1) * 2 ^ 1074) normal ∙ mul_assoc (2 ^ 52 + tail b) (2 ^ (field b - 1)) (2 ^ 1074)
      ∙ ap (λ (z : ℕ). (2 ^ 52 + tail b) * z) (product (field b - 1) 1074 (b / 2 ^ 52 + 1073) (omega arith)))
    where
      normal : all b ≡ 2 ^ 52 + tail b
      normal = all_is b (omega arith)

  pub sqrt_subnormal : 0 < b → b < 2 ^ 52 → (z : ℕ) → z ≤ 1074 → sqrt_bits b ≡ to_bits binary64 (root_of (b * 2 ^ z * 2 ^ (1074 - z)))
  sqrt_subnormal p h z l =
      by_value b 1074 (omega arith) (subst (λ (y : ℕ). 0 < y) (sym subnormal) p)
      (ap (λ (y : ℕ). y * 2 ^ (field b - 1) * 2 ^ 1074) subnormal ∙ ap (λ (y : ℕ). b * 2 ^ y * 2 ^ 1074) (bare (field b) (omega arith)) ∙ ap (λ (y : ℕ). y * 2 ^ 1074) (mul-one b))
      ∙ ap (λ (y : ℕ). to_bits binary64 (root_of y)) (sym (mul_assoc b (2 ^ z) (2 ^ (1074 - z)) ∙ ap (λ (y : ℕ). b * y) (product z (1074 - z) 1074 (omega arith))))
    where
      bare : (e : ℕ) → e ≡ 0 → e - 1 ≡ 0
      bare e q = omega arith

      field_is : field b ≡ 0
      field_is = omega arith

      subnormal : all b ≡ b
      subnormal = ap (λ (e : ℕ). digits binary64 e (tail b)) field_is ∙ omega arith

  pub sqrt_zero : b < 2 ^ 64 → b % 2 ^ 63 ≡ 0 → sqrt_bits b ≡ b
  sqrt_zero h l = ap (to_bits binary64) (zero_root (of_bits binary64 b) (sign b) (subst (λ (n : ℕ). HasValue (of_bits binary64 b) (sign b) n (2 ^ 1074)) none (value b (omega arith))))
      ∙ bits_again b h (omega arith)
    where
      field_is : field b ≡ 0
      field_is = omega arith

      none : all b * 2 ^ (field b - 1) ≡ 0
      none = ap (λ (z : ℕ). z * 2 ^ (field b - 1)) (ap (λ (e : ℕ). digits binary64 e (tail b)) field_is ∙ omega arith) ∙ zero-mul (2 ^ (field b - 1))

  pub sqrt_infinity : b ≡ 2047 * 2 ^ 52 → sqrt_bits b ≡ b
  sqrt_infinity e =
      let i : of_bits binary64 b ≡ inf false = infinite b (omega arith) ∙ ap inf (positive (omega arith)) in
      ap (λ (x : Float). to_bits binary64 (sqrt x)) i ∙ ap (to_bits binary64) (infinite_root ∙ sym i) ∙ bits_again b (omega arith) (omega arith)

  pub sqrt_none : 2047 * 2 ^ 52 < b → (b % 2 ^ 63 ≡ 0 → ⊥) → b < 2 ^ 64 → sqrt_bits b ≡ 0x7ff8_0000_0000_0000
  sqrt_none h n l = ap (to_bits binary64) (go (compare (b % 2 ^ 63) (2047 * 2 ^ 52)) (cmp (b % 2 ^ 63) (2047 * 2 ^ 52))) ∙ nan_pattern
    where
      minus : b % 2 ^ 63 ≤ 2047 * 2 ^ 52 → sign b ≡ true
      minus g = le-leb (2 ^ 63) b (omega arith)

      some : (e t : ℕ) → (e ≡ 0 → t ≡ 0 → ⊥) → 0 < digits binary64 e t
      some zero zero k = absurd (k refl refl)
      some zero (suc t) k = zero-lt-suc t
      some (suc e) t k = omega arith

      no : field b ≡ 0 → tail b ≡ 0 → ⊥
      no p q = n (omega arith)

      below : b % 2 ^ 63 < 2047 * 2 ^ 52 → sqrt (of_bits binary64 b) ≡ nan
      below g =
          negative_root (of_bits binary64 b) (all b * 2 ^ (field b - 1))
          (subst (λ (s : Bool). HasValue (of_bits binary64 b) s (all b * 2 ^ (field b - 1)) (2 ^ 1074)) (minus (le_of_lt g)) (value b (omega arith)))
          (mul-pos (some (field b) (tail b) no) (pow_pos (field b - 1)))

      at : b % 2 ^ 63 ≡ 2047 * 2 ^ 52 → sqrt (of_bits binary64 b) ≡ nan
      at e = ap sqrt (infinite b e ∙ ap inf (minus (le_of_eq e))) ∙ minus_infinite_root

      above : 2047 * 2 ^ 52 < b % 2 ^ 63 → sqrt (of_bits binary64 b) ≡ nan
      above g = ap sqrt (nan_above binary64 b g) ∙ nan_root

      go : (o : Ordering) → Cmp o (b % 2 ^ 63) (2047 * 2 ^ 52) → sqrt (of_bits binary64 b) ≡ nan
      go Ordering.lt g = below g
      go Ordering.eq g = at g
      go Ordering.gt g = above g
