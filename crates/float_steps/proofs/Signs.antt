-- The laws of the larger of two, the absolute value and the test for a finite value, by the comparisons that the code makes. Assumes nothing.
use Rattle.std.proofs.Common.{◌≡◌, ℕ, zero, suc, ◌+◌, ◌^◌, ◌<◌, ◌≤◌, Bool, true, false, cond, not, T, eqb, leb, sym, refl, ap, ◌∙◌, subst, le-leb}
use borrow.Author.Tests.{lt-leb}
use lib.Ieee.{Float, nan, inf, fin, Format, binary64, prec, low, hid, ones, odd, fits, ne, lt, is_nan, of_fields, to_bits}
use lib.Ieee.Bits.{is_false, of_bits-to_bits}
use Rattle.std.specs.Float.{float_is_finite, float_with_sign}
use Rattle.float_rounding.specs.Fields.{bits_fields, equals_itself}
use Rattle.float_steps.specs.Floats.{negative, larger, absolute, finite}
use Rattle.float_steps.specs.Patterns.{test_holds, is_nan_lem, sign, field, tail}
use Rattle.float_steps.specs.Plus.{negative_odd}

-- ---- the sign of a value is the highest bit of its pattern
-- the sign of the value of some fields is the one given
fields_negative : (f : Format) (s : Bool) (e t : ℕ) → T (not (is_nan (of_fields f s e t))) → negative (of_fields f s e t) ≡ s
unfolding of_fields negative is_nan
fields_negative f s zero t h = negative_odd (prec f) s t 0 (low f)
fields_negative f s (suc x) t h = go (eqb (suc x) (ones f)) (eqb t 0) h
  where
    go : (a b : Bool) → T (not (is_nan (cond a (cond b (inf s) nan) (odd (prec f) s (hid f + t) x (low f))))) → negative (cond a (cond b (inf s) nan) (odd (prec f) s (hid f + t) x (low f))) ≡ s
    go true true k = refl
    go true false k = absurd k
    go false b k = negative_odd (prec f) s (hid f + t) x (low f)

negative_bits : (x : Float) → fits binary64 x ≡ true → ne x x ≡ false → negative x ≡ leb (2 ^ 63) (to_bits binary64 x)
negative_bits x f n =
    let b = to_bits binary64 x in
    let e : x ≡ of_fields binary64 (sign b) (field b) (tail b) = sym (of_bits-to_bits binary64 x (test_holds (fits binary64 x) f)) ∙ bits_fields binary64 b in
    ap negative e ∙ fields_negative binary64 (sign b) (field b) (tail b) (subst (λ (z : Float). T (not (is_nan z))) e (equals_itself x n))

pub plus : (x : Float) → fits binary64 x ≡ true → ne x x ≡ false → to_bits binary64 x < 0x8000_0000_0000_0000 → negative x ≡ false
plus x f n h = negative_bits x f n ∙ lt-leb (2 ^ 63) (to_bits binary64 x) h

pub minus : (x : Float) → fits binary64 x ≡ true → ne x x ≡ false → 0x8000_0000_0000_0000 ≤ to_bits binary64 x → negative x ≡ true
minus x f n h = negative_bits x f n ∙ le-leb (2 ^ 63) (to_bits binary64 x) h

-- ---- the larger of two
no_nan : (x : Float) → ne x x ≡ false → is_nan x ≡ false
no_nan x e = is_false (is_nan x) (equals_itself x e)

nan_is : (x : Float) → ne x x ≡ true → is_nan x ≡ true
unfolding is_nan
nan_is x e = ap is_nan (is_nan_lem x e)

pub larger_left_nan : (x y : Float) → ne x x ≡ true → y ≡ larger x y
unfolding larger
larger_left_nan x y e = simp (nan_is x e)

pub larger_right_nan : (x y : Float) → ne x x ≡ false → ne y y ≡ true → x ≡ larger x y
unfolding larger
larger_right_nan x y e d = simp (no_nan x e, nan_is y d)

module _ (x y : Float) (p : ne x x ≡ false) (q : ne y y ≡ false) where
  pub larger_left : lt x y ≡ false → lt y x ≡ true → x ≡ larger x y
  unfolding larger
  larger_left h k = simp (no_nan x p, no_nan y q, h, k)

  pub equal_plus : lt x y ≡ false → lt y x ≡ false → negative x ≡ false → x ≡ larger x y
  unfolding larger
  equal_plus h k n = simp (no_nan x p, no_nan y q, h, k, n)

  pub equal_minus : lt x y ≡ false → lt y x ≡ false → negative x ≡ true → y ≡ larger x y
  unfolding larger
  equal_minus h k n = simp (no_nan x p, no_nan y q, h, k, n)

-- ---- the absolute value is the library's
pub absolute_is : (x : Float) → float_with_sign false x ≡ absolute x
unfolding float_with_sign absolute
absolute_is nan = refl
absolute_is (inf s) = refl
absolute_is (fin s m e) = refl

-- ---- the test for a finite value is the library's
pub finite_is : (x : Float) → float_is_finite x ≡ finite x
unfolding float_is_finite finite
finite_is nan = refl
finite_is (inf s) = refl
finite_is (fin s m e) = refl
