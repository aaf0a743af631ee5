-- How far a coordinate times a factor, rounded, is from zero, by the fields of its bits: sign, exponent and digits. Assumes nothing.
use mathlib.Core.Path.{◌≡◌, refl, sym, ap, ◌∙◌, subst}
use mathlib.Core.Logic.{◌⊎◌, inl, inr}
use mathlib.Core.Bool.{Bool, true, false, cond}
use Prim.Native.Nat.{ℕ, suc, ◌+◌, ◌-◌, ◌*◌, ◌/◌, ◌%◌, ◌^◌, ◌≤◌, ◌<◌, min}
use native.Mathlib.Nat.{mul_assoc, le_refl, le_of_eq, le_trans, lt_of_le_of_lt, lt_of_lt_of_le, mul-le-mul, eq-zero-or-pos, min-eq_right}
use native.Mathlib.Omega.{arith}
use borrow.Author.Tests.{eq-eqb, ne_eqb}
use lib.Pow.{pow_pos, pow_mono, shl_exact, shr_le}
use lib.Dec.{T, leb, eqb, eqb→eq, not_T, lit≤, lit<}
use lib.Ieee.{Float, nan, inf, fin, binary32, up, down, odd, of_fields, of_bits, to_bits, fits}
use lib.Ieee.Fits.{down_pos}
use lib.Ieee.Bits.{is_false, of_bits-to_bits}
use lib.Ieee.Exact.{HasValue, odd_sign}
use Rattle.float_round.specs.Integral.{half_up}
use Rattle.float_round.specs.Fractions.{same_fraction, below_half, no_digits}
use Rattle.point_rules.specs.Points.{nearest_size}
use Rattle.point_cell.specs.Scale.{Scale}
use Rattle.point_cell.proofs.Rounding.{mid_case}

-- ---- the size by the value
size_val : (F : ℕ) (x : Float) (s : Bool) (a c : ℕ) → 0 < c → HasValue x s a c → nearest_size F x ≡ half_up (F * a) c
unfolding nearest_size
size_val F nan s a c C h = absurd h
size_val F (inf t) s a c C h = absurd h
size_val F (fin t m e) s a c C h =
    same_fraction (F * m * up e) (down e) (F * a) c (down_pos e) C
    (ap (λ (z : ℕ). z * c) (mul_assoc F m (up e)) ∙ mul_assoc F (m * up e) c ∙ ap (λ (z : ℕ). F * z) h.1 ∙ sym (mul_assoc F a (down e)))

-- ---- the size by the fields
fields_normal : (F : ℕ) (s : Bool) (x t : ℕ) → suc x < 255 → nearest_size F (of_fields binary32 s (suc x) t) ≡ half_up (F * (2 ^ 23 + t) * 2 ^ x) (2 ^ 149)
unfolding of_fields
fields_normal F s x t h =
    ap (λ (b : Bool). nearest_size F (cond b (cond (eqb t 0) (inf s) nan) (odd 24 s (2 ^ 23 + t) x 149))) (is_false (eqb (suc x) 255) (not_T (eqb (suc x) 255) (λ u. no (eqb→eq (suc x) 255 u))))
    ∙ size_val F (odd 24 s (2 ^ 23 + t) x 149) s ((2 ^ 23 + t) * 2 ^ x) (2 ^ 149) (pow_pos 149) (odd_sign 24 s (2 ^ 23 + t) x 149)
    ∙ ap (λ (z : ℕ). half_up z (2 ^ 149)) (sym (mul_assoc F (2 ^ 23 + t) (2 ^ x)))
  where
    no : suc x ≡ 255 → ⊥
    no e = omega arith

-- digits times a factor up to 1,000,000
few_digits : (F t : ℕ) → F ≤ 1000000 → t < 2 ^ 24 → F * t < 2 ^ 44
few_digits F t f h = lt_of_le_of_lt (mul-le-mul {n₁ = F} {m₁ = t} {n₂ = 1000000} {m₂ = t} f (le_refl t)) (omega arith)

-- zero or a subnormal number
fields_subnormal : (F : ℕ) (s : Bool) (t : ℕ) → F ≤ 1000000 → t < 2 ^ 23 → nearest_size F (of_fields binary32 s 0 t) ≡ 0
unfolding of_fields
fields_subnormal F s t f h =
    size_val F (odd 24 s t 0 149) s (t * 2 ^ 0) (2 ^ 149) (pow_pos 149) (odd_sign 24 s t 0 149)
    ∙ ap (λ (z : ℕ). half_up z (2 ^ 149)) (sym (mul_assoc F t (2 ^ 0)))
    ∙ below_half (F * t) 0 149 44 (few_digits F t f (omega arith)) (lit< tt)

-- an infinity or a NaN
fields_top : (F : ℕ) (s : Bool) (e t : ℕ) → e ≡ 255 → nearest_size F (of_fields binary32 s e t) ≡ cond (eqb t 0) (F * 2 ^ 128) 0
unfolding of_fields nearest_size
fields_top F s e t h = ap (λ (z : ℕ). nearest_size F (of_fields binary32 s z t)) h ∙ at (eqb t 0)
  where
    at : (b : Bool) → nearest_size F (cond b (inf s) nan) ≡ cond b (F * 2 ^ 128) 0
    at true = refl
    at false = refl

-- ---- any f32, by its bits
of_bits_is : (b : ℕ) → of_bits binary32 b ≡ of_fields binary32 (leb (2 ^ 31) b) (b % 2 ^ 31 / 2 ^ 23) (b % 2 ^ 23)
unfolding of_bits
of_bits_is b = refl

-- the exponent's field and the digits
abbrev pub expo : ℕ → ℕ
expo b = b % 2 ^ 31 / 2 ^ 23

-- the digits
abbrev pub rest : ℕ → ℕ
rest b = b % 2 ^ 23

-- the float is that of its fields
pub is : (x : Float) (b : ℕ) (f : fits binary32 x ≡ true) (at : b ≡ to_bits binary32 x) → of_fields binary32 (leb (2 ^ 31) b) (expo b) (rest b) ≡ x
is x b f at = sym (of_bits_is b) ∙ ap (of_bits binary32) at ∙ of_bits-to_bits binary32 x (subst T (sym f) tt)

-- the product fits
pub digits_fit : (b F L : ℕ) → Scale F L → F * (2 ^ 23 + rest b) < 18446744073709551616
digits_fit b F L g = lt_of_lt_of_le (few_digits F (2 ^ 23 + rest b) g.few (omega arith)) (lit≤ tt)

module _ (x : Float) (b F L : ℕ) (f : fits binary32 x ≡ true) (at : b ≡ to_bits binary32 x) (g : Scale F L) where
  -- the digits times the factor
  digits_few : F * (2 ^ 23 + rest b) < 2 ^ 44
  digits_few = few_digits F (2 ^ 23 + rest b) g.few (omega arith)

  -- the size of a normal number
  normal : 0 < expo b → expo b < 255 → min (half_up (F * (2 ^ 23 + rest b) * 2 ^ (expo b - 1)) (2 ^ 149)) L ≡ min (nearest_size F x) L
  normal l h =
      ap (λ (z : ℕ). min z L)
      (sym (fields_normal F (leb (2 ^ 31) b) (expo b - 1) (rest b) (omega arith))
      ∙ ap (λ (z : ℕ). nearest_size F (of_fields binary32 (leb (2 ^ 31) b) z (rest b))) back
      ∙ ap (nearest_size F) (is x b f at))
    where
      back : suc (expo b - 1) ≡ expo b
      back = omega arith

  -- nothing is below the limit
  none : 0 ≡ min 0 L
  none = omega arith

  -- too small for a half
  pub size_low : expo b < 105 → 0 ≡ min (nearest_size F x) L
  size_low h = go (eq-zero-or-pos (expo b))
    where
      go : (expo b ≡ 0) ⊎ (0 < expo b) → 0 ≡ min (nearest_size F x) L
      go (inl z) =
          none
          ∙ ap (λ (n : ℕ). min n L)
          (sym (fields_subnormal F (leb (2 ^ 31) b) (rest b) g.few (omega arith))
          ∙ ap (λ (n : ℕ). nearest_size F (of_fields binary32 (leb (2 ^ 31) b) n (rest b))) (sym z) ∙ ap (nearest_size F) (is x b f at))
      go (inr p) =
          none ∙ ap (λ (z : ℕ). min z L) (sym (below_half (F * (2 ^ 23 + rest b)) (expo b - 1) 149 44 digits_few (omega arith))) ∙ normal p (omega arith)

  -- the quotient before the last halving
  pub quotient_few : F * (2 ^ 23 + rest b) / 2 ^ (149 - expo b) < 2 ^ 44
  quotient_few = lt_of_le_of_lt (shr_le (F * (2 ^ 23 + rest b)) (149 - expo b)) digits_few

  -- it can be rounded
  pub quotient_fits : F * (2 ^ 23 + rest b) / 2 ^ (149 - expo b) < 2 ^ 63
  quotient_fits = lt_of_lt_of_le quotient_few (lit≤ tt)

  -- rounded by a shift
  pub size_mid : {r : ℕ} → 105 ≤ expo b → expo b < 150 → r ≡ half_up (F * (2 ^ 23 + rest b) / 2 ^ (149 - expo b)) 2 → r ≡ min (nearest_size F x) L
  size_mid l h e =
      e
      ∙ small (F * (2 ^ 23 + rest b) / 2 ^ (149 - expo b)) quotient_few
      ∙ ap (λ (z : ℕ). min z L) (sym (mid_case (F * (2 ^ 23 + rest b)) (expo b - 1) (149 - expo b) (omega arith)))
      ∙ normal (omega arith) (omega arith)
    where
      small : (q : ℕ) → q < 2 ^ 44 → half_up q 2 ≡ min ((q + 1) / 2) L
      small q l = omega (arith, g.low)

  -- whole
  pub high : 150 ≤ expo b → expo b < 255 → min (F * (2 ^ 23 + rest b) * 2 ^ (expo b - 150)) L ≡ min (nearest_size F x) L
  high l h =
      ap (λ (z : ℕ). min z L) (sym (no_digits (F * (2 ^ 23 + rest b)) (expo b - 1) 149 (expo b - 150) (omega arith))) ∙ normal (omega arith) h

  -- whole, by a shift
  pub size_high : {r : ℕ} → 150 ≤ expo b → expo b < 171 → r ≡ min (F * (2 ^ 23 + rest b) * 2 ^ (expo b - 150) % 2 ^ 64) L → r ≡ min (nearest_size F x) L
  size_high l h e =
      e
      ∙ ap (λ (z : ℕ). min z L) (shl_exact {a = F * (2 ^ 23 + rest b)} 44 (expo b - 150) 64 digits_few (omega arith))
      ∙ high l (omega arith)

  -- beyond the limit
  pub size_over : 171 ≤ expo b → (expo b ≡ 255 → ⊥) → L ≡ min (nearest_size F x) L
  size_over l h =
      sym (min-eq_right (le_trans g.top large))
      ∙ high (omega arith) (omega arith)
    where
      large : F * 2 ^ 44 ≤ F * (2 ^ 23 + rest b) * 2 ^ (expo b - 150)
      large =
          le_trans (le_of_eq (sym (mul_assoc F (2 ^ 23) (2 ^ 21))))
          (mul-le-mul {n₁ = F * 2 ^ 23} {m₁ = 2 ^ 21} (mul-le-mul {n₁ = F} {m₁ = 2 ^ 23} (le_refl F) (omega arith)) (pow_mono {i = 21} {j = expo b - 150} (omega arith)))

  -- with the highest exponent
  top : expo b ≡ 255 → min (cond (eqb (rest b) 0) (F * 2 ^ 128) 0) L ≡ min (nearest_size F x) L
  top h = ap (λ (z : ℕ). min z L) (sym (fields_top F (leb (2 ^ 31) b) (expo b) (rest b) h) ∙ ap (nearest_size F) (is x b f at))

  -- a NaN
  pub size_nan : expo b ≡ 255 → (rest b ≡ 0 → ⊥) → 0 ≡ min (nearest_size F x) L
  size_nan h n = none ∙ ap (λ (c : Bool). min (cond c (F * 2 ^ 128) 0) L) (sym (ne_eqb (rest b) 0 n)) ∙ top h

  -- an infinity
  pub size_inf : expo b ≡ 255 → rest b ≡ 0 → L ≡ min (nearest_size F x) L
  size_inf h z = sym (min-eq_right (le_trans g.top (mul-le-mul {n₁ = F} {m₁ = 2 ^ 44} (le_refl F) (pow_mono {i = 44} {j = 128} (lit≤ tt)))))
      ∙ ap (λ (c : Bool). min (cond c (F * 2 ^ 128) 0) L) (sym (eq-eqb (rest b) 0 z)) ∙ top h
