-- The bit pattern of an f64 rounded to a whole number, by its exponent's field: a zero, a value with fractional digits, a whole value or an infinity, and a
-- NaN. Assumes nothing.
use mathlib.Core.Path.{◌≡◌, refl, sym, ap, ◌∙◌, subst}
use mathlib.Core.Logic.{◌⊎◌, inl, inr}
use mathlib.Core.Bool.{Bool, cond}
use Prim.Native.Nat.{ℕ, ◌+◌, ◌-◌, ◌*◌, ◌%◌, ◌^◌, ◌≤◌, ◌<◌}
use native.Mathlib.Nat.{le_trans, le_of_eq, le_of_lt, lt_of_lt_of_le, mul_assoc, mul-one, mul-le-mul_right, div-mul-le_self, div-lt_iff_lt-mul, le-div_iff_mul-le, add-zero, eq-or-lt_of_le}
use native.Mathlib.Omega.{arith}
use lib.Dec.{T, lit≤, lit<}
use lib.Pow.{pow_pos, pow_mono, pow-add, shl_lt}
use lib.Ieee.{Float, nan, inf, fin, binary64, up, down, round, fits, of_bits, to_bits}
use lib.Ieee.Exact.{HasValue, round_exact}
use lib.Ieee.Fits.{down_pos, round-fits, nan-fits, inf-fits}
use Rattle.float_rounding.specs.Fields.{nan_above}
use Rattle.float_rounding.specs.Held.{rescaled}
use Rattle.float_rounding.specs.Pattern.{exact_bits}
use Rattle.float_rounding.specs.Shift.{product}
use Rattle.float_round.specs.Integral.{half_up, round_away, round_bits}
use Rattle.float_round.specs.Fractions.{same_fraction, below_half, some_digits, no_digits}
use Rattle.float_steps.specs.Patterns.{sign, field, tail, all, all_lt, all_is, all_from, value, infinite, bits_again}

-- ---- rounding any fraction
pub half_up_le : (a c : ℕ) → half_up a c * (c * 2) ≤ a * 2 + c
half_up_le a c = div-mul-le_self (a * 2 + c) (c * 2)

round_value : (x : Float) (s : Bool) (a c : ℕ) → 0 < c → HasValue x s a c → round_away x ≡ round binary64 s (half_up a c) 1
unfolding round_away
round_value nan s a c C h = absurd h
round_value (inf t) s a c C h = absurd h
round_value (fin t m e) s a c C h =
    ap (λ (b : Bool). round binary64 b (half_up (m * up e) (down e)) 1) h.0 ∙ ap (λ (n : ℕ). round binary64 s n 1) (same_fraction (m * up e) (down e) a c (down_pos e) C h.1)

pub round_away_fits : (x : Float) → T (fits binary64 (round_away x))
unfolding round_away
round_away_fits nan = nan-fits binary64
round_away_fits (inf s) = inf-fits binary64 s
round_away_fits (fin s m e) = round-fits binary64 s (half_up (m * up e) (down e)) 1

infinity : (s : Bool) → round_away (inf s) ≡ inf s
unfolding round_away
infinity s = refl

-- a whole number n that is q * 2 ^ k of the smallest values
whole_bits : (s : Bool) (n g j q k : ℕ) → g < 2 ^ 53 → n ≡ g * 2 ^ j → j < 972 → n * 2 ^ 1074 ≡ q * 2 ^ k → (k ≡ 0) ⊎ (2 ^ 52 ≤ q) → q ≤ 2 ^ 53
    → to_bits binary64 (round binary64 s n 1) ≡ cond s (2 ^ 63) 0 + (k * 2 ^ 52 + q)
whole_bits s n g j q k G e J v lead most =
    exact_bits binary64 (round binary64 s n 1) s q k (subst (λ (z : ℕ). HasValue (round binary64 s n 1) s z (2 ^ 1074)) v
    (rescaled (round binary64 s n 1) s n 1 (2 ^ 1074) (2 ^ 1074) refl (round_exact binary64 s n 1 g (j + 1074) (lit< tt) G under is))) lead most
  where
    is : n * 2 ^ 1074 ≡ g * 2 ^ (j + 1074) * 1
    is = ap (λ (z : ℕ). z * 2 ^ 1074) e ∙ mul_assoc g (2 ^ j) (2 ^ 1074) ∙ ap (λ (z : ℕ). g * z) (sym (pow-add 2 j 1074)) ∙ sym (mul-one (g * 2 ^ (j + 1074)))

    under : g * 2 ^ (j + 1074) < 2 ^ 2098
    under = lt_of_lt_of_le (shl_lt 53 (j + 1074) G) (pow_mono {i = 53 + (j + 1074)} {j = 2098} (omega arith))

-- twice a number above 0 is above 0
twice_pos : (u : ℕ) → 0 < u → 0 < u * 2
twice_pos u h = omega arith

-- ---- M with its sh lowest digits rounded, a half up
module _ (M sh : ℕ) (lo : 2 ^ 52 ≤ M) (hi : M < 2 ^ 53) (S : 0 < sh) (few : sh ≤ 53) where
  abbrev n : ℕ
  n = half_up M (2 ^ sh)

  n_lt : n < 2 ^ 53
  n_lt = (div-lt_iff_lt-mul (twice_pos (2 ^ sh) (pow_pos sh))).1 (small (2 ^ sh) (pow_mono {i = 1} {j = sh} S))
    where
      small : (u : ℕ) → 2 ≤ u → M * 2 + u < 2 ^ 53 * (u * 2)
      small u h = omega arith

  pub kept_le : n * 2 ^ sh ≤ 2 ^ 53
  kept_le = at (2 ^ sh) (2 ^ (53 - sh)) (product (53 - sh) sh 53 (omega arith)) (pow_pos sh)
    where
      at : (u v : ℕ) → v * u ≡ 2 ^ 53 → 0 < u → half_up M u * u ≤ 2 ^ 53
      at u v e U = le_trans (mul-le-mul_right u (below (half_up M u) v ((div-lt_iff_lt-mul (twice_pos u U)).1 (wide u v e U)))) (le_of_eq e)
        where
          below : (a b : ℕ) → a < b + 1 → a ≤ b
          below a b h = omega arith

          wide : (u v : ℕ) → v * u ≡ 2 ^ 53 → 0 < u → M * 2 + u < (v + 1) * (u * 2)
          wide u v e h = omega arith

  kept_ge : 2 ^ 52 ≤ n * 2 ^ sh
  kept_ge = go (eq-or-lt_of_le few)
    where
      at : (u v : ℕ) → v * u ≡ 2 ^ 52 → 0 < u → 2 ^ 52 ≤ half_up M u * u
      at u v e U = le_trans (le_of_eq (sym e)) (mul-le-mul_right u ((le-div_iff_mul-le (twice_pos u U)).1 (wide u v e)))
        where
          wide : (u v : ℕ) → v * u ≡ 2 ^ 52 → v * (u * 2) ≤ M * 2 + u
          wide u v e = omega arith

      one : sh ≡ 53 → 2 ^ 52 ≤ half_up M (2 ^ 53) * 2 ^ 53
      one e = omega arith

      go : (sh ≡ 53) ⊎ (sh < 53) → 2 ^ 52 ≤ n * 2 ^ sh
      go (inl e) = subst (λ (z : ℕ). 2 ^ 52 ≤ half_up M (2 ^ z) * 2 ^ z) (sym e) (one e)
      go (inr l) = at (2 ^ sh) (2 ^ (52 - sh)) (product (52 - sh) sh 52 (omega arith)) (pow_pos sh)

-- ---- by the bits of the f64
module _ (b : ℕ) where
  by_value : field b < 2047 → round_bits b ≡ to_bits binary64 (round binary64 (sign b) (half_up (all b * 2 ^ (field b - 1)) (2 ^ 1074)) 1)
  by_value h = ap (to_bits binary64) (round_value (of_bits binary64 b) (sign b) (all b * 2 ^ (field b - 1)) (2 ^ 1074) (pow_pos 1074) (value b h))

  pub round_zero : field b < 1022 → round_bits b ≡ cond (sign b) (2 ^ 63) 0
  round_zero h =
      by_value (omega arith) ∙ ap (λ (n : ℕ). to_bits binary64 (round binary64 (sign b) n 1)) (below_half (all b) (field b - 1) 1074 53 (all_lt b) (omega arith))
      ∙ whole_bits (sign b) 0 0 0 0 0 (lit< tt) refl (lit< tt) refl (inl refl) (lit≤ tt)
      ∙ add-zero (cond (sign b) (2 ^ 63) 0)

  pub round_fraction : 1022 ≤ field b → field b < 1075 → round_bits b ≡ cond (sign b) (2 ^ 63) 0 + ((field b - 1) * 2 ^ 52 + half_up (2 ^ 52 + tail b) (2 ^ (1075 - field b)) * 2 ^ (1075 - field b))
  round_fraction h g =
      let M = 2 ^ 52 + tail b in
      let sh = 1075 - field b in
      by_value (omega arith)
      ∙ ap (λ (n : ℕ). to_bits binary64 (round binary64 (sign b) n 1)) (some_digits (all b) (field b - 1) 1074 sh (omega arith) ∙ ap (λ (z : ℕ). half_up z (2 ^ sh)) (all_is b (omega arith)))
      ∙ whole_bits (sign b) (half_up M (2 ^ sh)) (half_up M (2 ^ sh)) 0 (half_up M (2 ^ sh) * 2 ^ sh) (field b - 1)
      (n_lt M sh (omega arith) (omega arith) (omega arith) (omega arith)) (sym (mul-one (half_up M (2 ^ sh)))) (lit< tt)
      (ap (λ (z : ℕ). half_up M (2 ^ sh) * 2 ^ z) (whole_is (field b) (omega arith) (omega arith)) ∙ ap (λ (z : ℕ). half_up M (2 ^ sh) * z) (pow-add 2 sh (field b - 1))
      ∙ sym (mul_assoc (half_up M (2 ^ sh)) (2 ^ sh) (2 ^ (field b - 1))))
      (inr (kept_ge M sh (omega arith) (omega arith) (omega arith) (omega arith)))
      (kept_le M sh (omega arith) (omega arith) (omega arith) (omega arith))
    where
      whole_is : (e : ℕ) → 1022 ≤ e → e < 1075 → 1074 ≡ 1075 - e + (e - 1)
      whole_is e l k = omega arith

  pub round_whole : 1075 ≤ field b → b < 2 ^ 64 → b % 2 ^ 63 ≤ 2047 * 2 ^ 52 → round_bits b ≡ b
  round_whole h l g = go (eq-or-lt_of_le g)
    where
      go : (b % 2 ^ 63 ≡ 2047 * 2 ^ 52) ⊎ (b % 2 ^ 63 < 2047 * 2 ^ 52) → round_bits b ≡ b
      go (inl e) = ap (λ (x : Float). to_bits binary64 (round_away x)) (infinite b e) ∙ ap (to_bits binary64) (infinity (sign b) ∙ sym (infinite b e)) ∙ bits_again b l g
      go (inr k) =
          let j = field b - 1075 in
          by_value (omega arith)
          ∙ ap (λ (n : ℕ). to_bits binary64 (round binary64 (sign b) n 1)) (no_digits (all b) (field b - 1) 1074 j (omega arith))
          ∙ whole_bits (sign b) (all b * 2 ^ j) (all b) j (all b) (field b - 1) (all_lt b) refl (omega arith)
          (mul_assoc (all b) (2 ^ j) (2 ^ 1074) ∙ ap (λ (z : ℕ). all b * z) (sym (pow-add 2 j 1074) ∙ ap (λ (z : ℕ). 2 ^ z) (whole_is (field b) (omega arith))))
          (inr (all_from b (omega arith))) (le_of_lt (all_lt b))
          ∙ sym (exact_bits binary64 (of_bits binary64 b) (sign b) (all b) (field b - 1) (value b (omega arith)) (inr (all_from b (omega arith))) (le_of_lt (all_lt b)))
          ∙ bits_again b l g
        where
          whole_is : (e : ℕ) → 1075 ≤ e → e - 1075 + 1074 ≡ e - 1
          whole_is e l = omega arith

  pub round_nan : 2047 * 2 ^ 52 < b % 2 ^ 63 → round_bits b ≡ 0x7ff8_0000_0000_0000
  round_nan h = ap (λ (x : Float). to_bits binary64 (round_away x)) (nan_above binary64 b h) ∙ pattern_is
    where
      pattern_is : to_bits binary64 (round_away nan) ≡ 0x7ff8_0000_0000_0000
      pattern_is = unfold to_bits round_away in refl
