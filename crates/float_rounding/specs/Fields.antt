-- The value of a bit pattern by its fields: the sign, the exponent's field and the digits below the leading one. Over either format. Assumes nothing.
use Rattle.std.specs.Prelude.{◌≡◌, refl, ℕ, zero, suc, ◌+◌, ◌-◌, ◌*◌, ◌/◌, ◌%◌, ◌^◌, ◌≤◌, ◌<◌, Bool, true, false, not, cond, T, leb, eqb, Float}
use Rattle.std.proofs.Common.{sym, ap, ◌∙◌, subst, lt_irrefl, arith, true≢false, eqb→eq, lt-ltb, le-ltb}
use Rattle.std.proofs.Math.Dec.{not_T}
use Rattle.std.specs.Float.{nan, inf, fin, Format}
use Rattle.std.specs.Float.Ieee.{prec, low, odd, hid, ones, top, of_fields, of_bits, nan_bits, is_nan, ne}
use Rattle.std.specs.Float.Ieee.Bits.{is_false, is_true, nan_bits_is, nan_bits_above}
use Rattle.std.specs.Float.Ieee.Fits.{eq→eqb, two, two-le_pos}
use Rattle.std.specs.Float.Ieee.Exact.{HasValue, odd_sign}
use Rattle.float_rounding.specs.Near.{twice}

-- the digits with the leading one, which an exponent's field of 0 does not have
abbrev pub digits : Format → ℕ → ℕ → ℕ
digits f zero t = t
digits f (suc x) t = hid f + t

-- below the highest field: digits * 2 ^ (e - 1) of the smallest values, and * 2 ^ 0 at a field of 0
pub fields_value : (f : Format) (s : Bool) (e t : ℕ) → (e ≡ ones f → ⊥) → HasValue (of_fields f s e t) s (digits f e t * 2 ^ (e - 1)) (2 ^ low f)
unfolding of_fields
fields_value f s zero t h = odd_sign (prec f) s t 0 (low f)
fields_value f s (suc x) t h =
    subst (λ (b : Bool). HasValue (cond b (cond (eqb t 0) (inf s) nan) (odd (prec f) s (hid f + t) x (low f))) s ((hid f + t) * 2 ^ (suc x - 1)) (2 ^ low f))
    (sym (is_false (eqb (suc x) (ones f)) (not_T (eqb (suc x) (ones f)) (λ u. h (eqb→eq (suc x) (ones f) u)))))
    (subst (λ (z : ℕ). HasValue (odd (prec f) s (hid f + t) x (low f)) s ((hid f + t) * 2 ^ z) (2 ^ low f)) (pred x) (odd_sign (prec f) s (hid f + t) x (low f)))
  where
    pred : (x : ℕ) → x ≡ suc x - 1
    pred x = omega arith

-- the highest field: an infinity with no digits, else a NaN
pub fields_inf : (f : Format) (s : Bool) (x t : ℕ) → suc x ≡ ones f → t ≡ 0 → of_fields f s (suc x) t ≡ inf s
unfolding of_fields
fields_inf f s x t p q =
    ap (λ (b : Bool). cond b (cond (eqb t 0) (inf s) nan) (odd (prec f) s (hid f + t) x (low f))) (is_true (eqb (suc x) (ones f)) (eq→eqb p))
    ∙ ap (λ (b : Bool). cond b (inf s) nan) (is_true (eqb t 0) (eq→eqb q))

-- the digits of a field above 0
pub digits_normal : (f : Format) (e t : ℕ) → 0 < e → digits f e t ≡ hid f + t
digits_normal f zero t h = absurd (lt_irrefl 0 h)
digits_normal f (suc x) t h = refl

pub digits_lt : (f : Format) (e t : ℕ) → t < hid f → digits f e t < 2 ^ prec f
digits_lt f e t h = go e (twice (prec f) (two-le_pos (prec f) (two f)))
  where
    go : (e : ℕ) → 2 ^ prec f ≡ 2 * hid f → digits f e t < 2 ^ prec f
    go zero w = omega arith
    go (suc x) w = omega arith

-- ---- any pattern
pub bits_fields : (f : Format) (b : ℕ) → of_bits f b ≡ of_fields f (leb (top f) b) (b % top f / hid f) (b % hid f)
unfolding of_bits
bits_fields f b = refl

-- a NaN's pattern is above the infinity's, the sign aside
is_nan_lem : (x : Float) → is_nan x ≡ true → x ≡ nan
unfolding is_nan
is_nan_lem nan e = refl
is_nan_lem (inf s) e = absurd (true≢false (sym e))
is_nan_lem (fin s m d) e = absurd (true≢false (sym e))

pub nan_above : (f : Format) (b : ℕ) → ones f * hid f < b % top f → of_bits f b ≡ nan
nan_above f b h = is_nan_lem (of_bits f b) (sym (nan_bits_is f b) ∙ nan_bits_above f b ∙ lt-ltb (ones f * hid f) (b % top f) h)

pub no_nan_bits : (f : Format) (b : ℕ) → b % top f ≤ ones f * hid f → T (not (nan_bits f b))
no_nan_bits f b h = subst (λ (t : Bool). T (not t)) (sym (nan_bits_above f b ∙ le-ltb (ones f * hid f) (b % top f) h)) tt

pub no_nan_below : (f : Format) (b : ℕ) → b % top f ≤ ones f * hid f → T (not (is_nan (of_bits f b)))
no_nan_below f b h = subst (λ (t : Bool). T (not t)) (nan_bits_is f b) (no_nan_bits f b h)

-- only a NaN differs from itself
pub equals_itself : (x : Float) → ne x x ≡ false → T (not (is_nan x))
unfolding ne is_nan
equals_itself nan e = absurd (true≢false e)
equals_itself (inf s) e = tt
equals_itself (fin s m d) e = tt
