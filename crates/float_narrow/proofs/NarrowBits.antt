-- The bit pattern of a narrowed f64, by its exponent's field: a zero, a subnormal value, a normal value or an infinity, and a NaN. Assumes nothing.
use mathlib.Core.Path.{◌≡◌, refl, sym, ap, ◌∙◌}
use mathlib.Core.Logic.{◌⊎◌, inl, inr}
use mathlib.Core.Bool.{Bool, cond}
use Prim.Native.Nat.{ℕ, zero, suc, ◌+◌, ◌-◌, ◌*◌, ◌/◌, ◌%◌, ◌^◌, ◌≤◌, ◌<◌, min, compare, Ordering}
use native.Mathlib.Nat.{le_trans, lt_of_lt_of_le, mul-pos, mul-lt-mul_of_pos_right, div-add-mod', mod-lt, add-zero, div-eq_of_lt-le, eq-or-lt_of_le}
use native.Mathlib.Omega.{arith}
use lib.Dec.{T, lit≤, lit<}
use lib.Pow.{pow_pos, pow_mono, shr_lt}
use lib.Ieee.{Float, nan, inf, fin, binary32, binary64, up, down, round, fits, of_bits, to_bits}
use lib.Ieee.Fits.{nearest-le, round-fits, nan-fits, inf-fits}
use lib.Ieee.Nearest.{closest, closest_same}
use Rattle.float_rounding.specs.Fields.{nan_above}
use Rattle.float_rounding.specs.Near.{Cmp, cmp, closest_below, closest_tie, closest_above}
use Rattle.float_rounding.specs.Pattern.{round_bits}
use Rattle.float_rounding.specs.Shift.{closest_zero, moved, n_lt, drop_many, drop_none}
use Rattle.float_narrow.specs.Narrow.{narrow, narrow_bits}
use Rattle.float_narrow.proofs.NarrowNear.{narrow_value}
use Rattle.float_steps.specs.Patterns.{sign, field, tail, all, all_lt, all_is, all_from, value, infinite}

-- ---- the nearest whole number to m / (2 * h) by one sum
module _ (m h d r p : ℕ) (H : 0 < h) (M : d * (2 * h) + r ≡ m) (R : r < 2 * h) where
  sum_below : r * 2 < 2 * h → p < 2 → (m + (h - 1) + p) / (2 * h) ≡ d
  sum_below l k = div-eq_of_lt-le (2 * h) (omega arith) (omega arith)

  sum_tie : r * 2 ≡ 2 * h → p < 2 → (m + (h - 1) + p) / (2 * h) ≡ d + p
  sum_tie l k = go p k
    where
      go : (p : ℕ) → p < 2 → (m + (h - 1) + p) / (2 * h) ≡ d + p
      go zero k = div-eq_of_lt-le (2 * h) (omega arith) (omega arith)
      go (suc zero) k = div-eq_of_lt-le (2 * h) (omega arith) (omega arith)
      go (suc (suc p)) k = omega arith

  sum_above : 2 * h < r * 2 → p < 2 → (m + (h - 1) + p) / (2 * h) ≡ d + 1
  sum_above l k = div-eq_of_lt-le (2 * h) (omega arith) (omega arith)

pub nearest_sum : (m h : ℕ) → 0 < h → (m + (h - 1) + m / (2 * h) % 2) / (2 * h) ≡ closest m (2 * h)
nearest_sum m h H = go (compare (r * 2) (2 * h)) (cmp (r * 2) (2 * h))
  where
    d : ℕ
    d = m / (2 * h)

    r : ℕ
    r = m % (2 * h)

    even : (h : ℕ) → 0 < h → 0 < 2 * h
    even h H = omega arith

    R : r < 2 * h
    R = mod-lt m (even h H)

    bit : (d : ℕ) → d % 2 < 2
    bit d = omega arith

    go : (o : Ordering) → Cmp o (r * 2) (2 * h) → (m + (h - 1) + d % 2) / (2 * h) ≡ closest m (2 * h)
    go Ordering.lt l = sum_below m h d r (d % 2) H (div-add-mod' m (2 * h)) R l (bit d) ∙ sym (closest_below m (2 * h) l)
    go Ordering.eq l = sum_tie m h d r (d % 2) H (div-add-mod' m (2 * h)) R l (bit d) ∙ sym (closest_tie m (2 * h) l)
    go Ordering.gt l = sum_above m h d r (d % 2) H (div-add-mod' m (2 * h)) R l (bit d) ∙ sym (closest_above m (2 * h) l)

-- a quotient of a number of j + k binary digits by 2 ^ k has j at most
pub nearest_small : (m j k : ℕ) → m < 2 ^ (j + k) → closest m (2 ^ k) ≤ 2 ^ j
nearest_small m j k h = le_trans (nearest-le (m / 2 ^ k) (compare (m % 2 ^ k * 2) (2 ^ k))) (shr_lt j k h)

-- ---- narrowing any fraction
pub narrow_fits : (x : Float) → T (fits binary32 (narrow x))
unfolding narrow
narrow_fits nan = nan-fits binary32
narrow_fits (inf s) = inf-fits binary32 s
narrow_fits (fin s m e) = round-fits binary32 s (m * up e) (down e)

-- ---- M * 2 ^ x of the smallest f64 values
module _ (s : Bool) (M x : ℕ) (hi : M < 2 ^ 53) where
  abbrev short : ℕ
  short = to_bits binary32 (round binary32 s (M * 2 ^ x) (2 ^ 1074))

  -- below 2 ^ -150 it is less than half of the smallest f32
  to_zero : x < 871 → short ≡ cond s (2 ^ 31) 0
  to_zero g =
      round_bits binary32 s (M * 2 ^ x) (2 ^ 1074) 0 0 (pow_pos 1074)
      (drop_none M x 149 1074 53 24 hi (omega arith))
      (closest_zero (M * 2 ^ x * 2 ^ 149) (2 ^ 1074 * 2 ^ 0) (lt_of_lt_of_le (mul-lt-mul_of_pos_right (n_lt M x 149 1070 53 3 hi (omega arith)) (lit< tt)) (lit≤ tt)))
      ∙ add-zero (cond s (2 ^ 31) 0)

  -- no digit of an f32's 24 is dropped: it is subnormal
  to_subnormal : x < 896 → 871 ≤ x → short ≡ cond s (2 ^ 31) 0 + closest M (2 ^ (925 - x))
  to_subnormal h g =
      let sh = 925 - x in
      round_bits binary32 s (M * 2 ^ x) (2 ^ 1074) 0 (closest M (2 ^ sh)) (pow_pos 1074)
      (drop_none M x 149 1074 53 24 hi (omega arith))
      (closest_same (M * 2 ^ x * 2 ^ 149) (2 ^ 1074 * 2 ^ 0) M (2 ^ sh) (mul-pos (pow_pos 1074) (pow_pos 0)) (pow_pos sh) (moved M x 149 1074 sh 0 (omega arith)))
      ∙ ap (λ (z : ℕ). cond s (2 ^ 31) 0 + z) (few (closest M (2 ^ sh)) (nearest_small M 24 sh (lt_of_lt_of_le hi (pow_mono {i = 53} {j = 24 + sh} (omega arith)))))
    where
      few : (q : ℕ) → q ≤ 2 ^ 24 → min (0 * 2 ^ 23 + q) (255 * 2 ^ 23) ≡ q
      few q l = omega arith

  -- all but 24 digits are dropped
  to_normal : 2 ^ 52 ≤ M → 896 ≤ x → short ≡ cond s (2 ^ 31) 0 + min ((x - 896) * 2 ^ 23 + closest M (2 ^ 29)) (255 * 2 ^ 23)
  to_normal lo h =
      let k = x - 896 in
      round_bits binary32 s (M * 2 ^ x) (2 ^ 1074) k (closest M (2 ^ 29)) (pow_pos 1074)
      (drop_many M x 149 1074 52 24 k (lit< tt) lo hi (omega arith))
      (closest_same (M * 2 ^ x * 2 ^ 149) (2 ^ 1074 * 2 ^ k) M (2 ^ 29) (mul-pos (pow_pos 1074) (pow_pos k)) (pow_pos 29) (moved M x 149 1074 29 k (omega arith)))

-- ---- by the bits of the f64
module _ (b : ℕ) where
  by_value : field b < 2047 → narrow_bits b ≡ to_bits binary32 (round binary32 (sign b) (all b * 2 ^ (field b - 1)) (2 ^ 1074))
  by_value h = ap (to_bits binary32) (narrow_value (of_bits binary64 b) (sign b) (all b * 2 ^ (field b - 1)) (2 ^ 1074) (pow_pos 1074) (value b h))

  pub narrow_zero : field b < 872 → narrow_bits b ≡ cond (sign b) (2 ^ 31) 0
  narrow_zero h = by_value (omega arith) ∙ to_zero (sign b) (all b) (field b - 1) (all_lt b) (omega arith)

  pub narrow_subnormal : 872 ≤ field b → field b < 897 → narrow_bits b ≡ cond (sign b) (2 ^ 31) 0 + closest (2 ^ 52 + tail b) (2 ^ (926 - field b))
  narrow_subnormal h g =
      by_value (omega arith) ∙ to_subnormal (sign b) (all b) (field b - 1) (all_lt b) (omega arith) (omega arith)
      ∙ ap (λ (z : ℕ). cond (sign b) (2 ^ 31) 0 + closest z (2 ^ (925 - (field b - 1)))) (all_is b (omega arith))
      ∙ ap (λ (z : ℕ). cond (sign b) (2 ^ 31) 0 + closest (2 ^ 52 + tail b) (2 ^ z)) (same (field b) (omega arith))
    where
      same : (e : ℕ) → 872 ≤ e → 925 - (e - 1) ≡ 926 - e
      same e l = omega arith

  pub narrow_normal : 897 ≤ field b → b % 2 ^ 63 ≤ 2047 * 2 ^ 52 → narrow_bits b ≡ cond (sign b) (2 ^ 31) 0 + min ((field b - 897) * 2 ^ 23 + closest (2 ^ 52 + tail b) (2 ^ 29)) (255 * 2 ^ 23)
  narrow_normal h g = go (eq-or-lt_of_le g)
    where
      same : (e : ℕ) → 897 ≤ e → e - 1 - 896 ≡ e - 897
      same e l = omega arith

      go : (b % 2 ^ 63 ≡ 2047 * 2 ^ 52) ⊎ (b % 2 ^ 63 < 2047 * 2 ^ 52) → narrow_bits b ≡ cond (sign b) (2 ^ 31) 0 + min ((field b - 897) * 2 ^ 23 + closest (2 ^ 52 + tail b) (2 ^ 29)) (255 * 2 ^ 23)
      go (inl e) =
          ap (λ (x : Float). to_bits binary32 (narrow x)) (infinite b e) ∙ infinity (sign b)
          ∙ ap (λ (z : ℕ). cond (sign b) (2 ^ 31) 0 + z) (cut (closest (2 ^ 52 + tail b) (2 ^ 29)) (field b) (omega arith))
        where
          cut : (q e : ℕ) → e ≡ 2047 → 255 * 2 ^ 23 ≡ min ((e - 897) * 2 ^ 23 + q) (255 * 2 ^ 23)
          cut q e p = omega arith

          infinity : (s : Bool) → to_bits binary32 (narrow (inf s)) ≡ cond s (2 ^ 31) 0 + 255 * 2 ^ 23
          infinity s = unfold to_bits narrow in refl
      go (inr l) =
          by_value (omega arith) ∙ to_normal (sign b) (all b) (field b - 1) (all_lt b) (all_from b (omega arith)) (omega arith)
          ∙ ap (λ (z : ℕ). cond (sign b) (2 ^ 31) 0 + min ((field b - 1 - 896) * 2 ^ 23 + closest z (2 ^ 29)) (255 * 2 ^ 23)) (all_is b (omega arith))
          ∙ ap (λ (z : ℕ). cond (sign b) (2 ^ 31) 0 + min (z * 2 ^ 23 + closest (2 ^ 52 + tail b) (2 ^ 29)) (255 * 2 ^ 23)) (same (field b) h)

  pub narrow_nan : 2047 * 2 ^ 52 < b % 2 ^ 63 → narrow_bits b ≡ 0x7fc0_0000
  narrow_nan h = ap (λ (x : Float). to_bits binary32 (narrow x)) (nan_above binary64 b h) ∙ pattern
    where
      pattern : to_bits binary32 (narrow nan) ≡ 0x7fc0_0000
      pattern = unfold to_bits narrow in refl
