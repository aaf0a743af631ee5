-- The bit patterns of f64: the sign, the exponent's field and the digits, with the value that they stand for. Assumes nothing.
use Rattle.std.specs.Prelude.{◌≡◌, ℕ, ◌+◌, ◌-◌, ◌*◌, ◌/◌, ◌%◌, ◌^◌, ◌<◌, ◌≤◌, Bool, true, false, cond, not, T, nat_le, to_bits, refl, Float}
use Rattle.std.proofs.Common.{sym, ap, ◌∙◌, subst, arith, leb→le}
use Rattle.std.proofs.Math.Dec.{nleb→lt}
use Rattle.std.specs.Float.{nan, inf, Format, binary32, binary64}
use Rattle.std.specs.Float.Ieee.{hid, ones, top, fits, ne, div, of_bits, of_fields}
use Rattle.std.specs.Float.Ieee.Bits.{of_bits-to_bits, to_bits-of_bits, of_bits-fits}
use Rattle.std.specs.Float.Ieee.Compare.{differs_from_itself}
use Rattle.std.specs.Float.Ieee.Exact.{HasValue}
use Rattle.float_rounding.specs.Fields.{digits, digits_normal, digits_lt, fields_value, fields_inf, bits_fields, nan_above, no_nan_below}

abbrev pub sign : ℕ → Bool
sign b = nat_le (2 ^ 63) b

abbrev pub field : ℕ → ℕ
field b = b % 2 ^ 63 / 2 ^ 52

abbrev pub tail : ℕ → ℕ
tail b = b % 2 ^ 52

-- the digits with the leading one
abbrev pub all : ℕ → ℕ
all b = digits binary64 (field b) (tail b)

-- the digits are below 2 ^ 53
pub all_lt : (b : ℕ) → all b < 2 ^ 53
all_lt b = digits_lt binary64 (field b) (tail b) (omega arith)

-- those of a normal value
pub all_is : (b : ℕ) → 0 < field b → all b ≡ 2 ^ 52 + tail b
all_is b h = digits_normal binary64 (field b) (tail b) h

-- they are 53, with the leading one
pub all_from : (b : ℕ) → 0 < field b → 2 ^ 52 ≤ all b
all_from b h = omega (arith, all_is b h)

-- the value of a pattern that is finite
pub value : (b : ℕ) → field b < 2047 → HasValue (of_bits binary64 b) (sign b) (all b * 2 ^ (field b - 1)) (2 ^ 1074)
value b h =
    subst (λ (x : Float). HasValue x (sign b) (all b * 2 ^ (field b - 1)) (2 ^ 1074)) (sym (bits_fields binary64 b)) (fields_value binary64 (sign b) (field b) (tail b) no)
  where
    no : field b ≡ 2047 → ⊥
    no e = omega arith

-- the pattern of an infinity
pub infinite : (b : ℕ) → b % 2 ^ 63 ≡ 2047 * 2 ^ 52 → of_bits binary64 b ≡ inf (sign b)
infinite b h = bits_fields binary64 b ∙ ap (λ (e : ℕ). of_fields binary64 (sign b) e (tail b)) highest ∙ fields_inf binary64 (sign b) 2046 (tail b) refl (omega arith)
  where
    highest : field b ≡ 2047
    highest = omega arith

-- a pattern that is no NaN's is that of its own value
pub bits_again : (b : ℕ) → b < 2 ^ 64 → b % 2 ^ 63 ≤ 2047 * 2 ^ 52 → to_bits binary64 (of_bits binary64 b) ≡ b
bits_again b h l = to_bits-of_bits binary64 b h (no_nan_below binary64 b l)

-- the sign's weight w, by the highest bit
pub sign_weight : (b w : ℕ) → b < 2 ^ 64 → cond (sign b) w 0 ≡ b / 2 ^ 63 * w
sign_weight b w h = go (sign b) (leb→le (2 ^ 63) b) (nleb→lt (2 ^ 63) b)
  where
    one : (q : ℕ) → q ≡ 1 → w ≡ q * w
    one q e = omega (arith, ap (λ (z : ℕ). z * w) e)

    none : (q : ℕ) → q ≡ 0 → 0 ≡ q * w
    none q e = omega (arith, ap (λ (z : ℕ). z * w) e)

    go : (s : Bool) → (T s → 2 ^ 63 ≤ b) → (T (not s) → b < 2 ^ 63) → cond s w 0 ≡ b / 2 ^ 63 * w
    go true l g = let k = l tt in one (b / 2 ^ 63) (omega arith)
    go false l g = let k = g tt in none (b / 2 ^ 63) (omega arith)

-- a test that is true holds
pub test_holds : (t : Bool) → t ≡ true → T t
test_holds t e = subst T (sym e) tt

-- ---- NaN
nan_made : (f : Format) → div f (of_bits f 0) (of_bits f 0) ≡ nan
unfolding div of_bits
nan_made binary32 = refl
nan_made binary64 = refl

-- a pattern above the infinity's has it
pub nan_of_bits : (f : Format) (b : ℕ) → ones f * hid f < b % top f → div f (of_bits f 0) (of_bits f 0) ≡ of_bits f b
nan_of_bits f b h = nan_made f ∙ sym (nan_above f b h)

-- what differs from itself is the NaN
pub is_nan_lem : (x : Float) → ne x x ≡ true → x ≡ nan
is_nan_lem x e = differs_from_itself x (test_holds (ne x x) e)

-- what differs from itself has its pattern
pub bits_of_nan : (f : Format) (x : Float) → ne x x ≡ true → to_bits f nan ≡ to_bits f x
bits_of_nan f x e = ap (to_bits f) (sym (is_nan_lem x e))

-- ---- a step on bit patterns is one on floats: g is the step, from the format f to the format h
pub through : (f h : Format) (g : Float → Float) (x : Float) → fits f x ≡ true → ((y : Float) → T (fits f y) → T (fits h (g y))) → of_bits h (to_bits h (g (of_bits f (to_bits f x)))) ≡ g x
through f h g x k w = of_bits-to_bits h (g (of_bits f (to_bits f x))) (w (of_bits f (to_bits f x)) (of_bits-fits f (to_bits f x))) ∙ ap g (of_bits-to_bits f x (test_holds (fits f x) k))
