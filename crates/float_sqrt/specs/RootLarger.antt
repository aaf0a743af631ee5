-- The root of the larger of two values is the larger of their roots, where no sign keeps them from having one. Assumes nothing.
use Rattle.std.specs.Prelude.{◌≡◌, refl, Bool, true, false, cond, ℕ, zero, suc, ◌*◌, ◌^◌, ◌≤◌, ◌<◌, T, ltb, ℤ, Float}
use Rattle.std.proofs.Common.{sym, ap, ◌∙◌, subst, true≢false, zero-le, le_antisymm, le_of_lt, le_of_mul-le-mul_right, mul-le-mul_right, mul-pos, arith, ltb-false, lt-ltb, le-ltb, lt→ltb, pow_pos}
use Rattle.std.specs.Float.{nan, inf, fin, binary64}
use Rattle.std.specs.Float.Ieee.{up, down, lt, fits, is_nan, of_bits}
use Rattle.std.specs.Float.Ieee.Bits.{of_bits-to_bits}
use Rattle.std.specs.Float.Ieee.Exact.{HasValue}
use Rattle.std.specs.Float.Ieee.Fits.{up_pos, down_pos}
use Rattle.std.specs.Float.Ieee.Order.{transfer}
use Rattle.std.specs.Float.Ieee.Positive.{positive, cross→le}
use Rattle.float_rounding.specs.Pattern.{value_bits}
use Rattle.float_sqrt.specs.Roots.{sqrt}
use Rattle.float_steps.specs.Floats.{negative, larger}
use Rattle.float_sqrt.specs.SquareRoot.{Nearest, sqrt_nearest}
use Rattle.float_sqrt.specs.RootOrder.{roots_ordered, root_fits, below_le}
use Rattle.float_steps.specs.Plus.{Plus, larger_above, larger_either}

-- ---- a value is written in one way

-- two f64 of one value are the same
same_value : (x y : Float) (n : ℕ) → T (fits binary64 x) → T (fits binary64 y) → HasValue x false n (2 ^ 1074) → HasValue y false n (2 ^ 1074) → x ≡ y
same_value x y n f g h k = sym (of_bits-to_bits binary64 x f) ∙ ap (of_bits binary64) (value_bits binary64 x false n h ∙ sym (value_bits binary64 y false n k)) ∙ of_bits-to_bits binary64 y g

-- ---- the larger of two values

-- either way the same value
same : (b : Bool) (x : Float) → cond b x x ≡ x
same true x = refl
same false x = refl

-- what is not below, and has the sign plus, is
larger_first : (m : ℕ) (e : ℤ) (y : Float) → lt (fin false m e) y ≡ false → larger (fin false m e) y ≡ fin false m e
unfolding larger is_nan negative
larger_first m e nan h = refl
larger_first m e (inf t) h = simp (h, same)
larger_first m e (fin t n d) h = simp (h, same)

units : 0 < 2 ^ 1074
units = pow_pos 1074

-- of two f64 with values, the one whose value is not below the other's
larger_second_value : (x y : Float) (a b : ℕ) → T (fits binary64 x) → T (fits binary64 y) → HasValue x false a (2 ^ 1074) → HasValue y false b (2 ^ 1074) → a ≤ b → larger x y ≡ y
unfolding lt
larger_second_value nan y a b f g h k l = absurd h
larger_second_value (inf s) y a b f g h k l = absurd h
larger_second_value (fin true m e) y a b f g h k l = absurd (true≢false h.0)
larger_second_value (fin false m e) nan a b f g h k l = absurd k
larger_second_value (fin false m e) (inf s) a b f g h k l = absurd k
larger_second_value (fin false m e) (fin true n d) a b f g h k l = absurd (true≢false k.0)
larger_second_value (fin false m e) (fin false n d) a b f g h k l = go (ltb (m * up e * down d) (n * up d * down e)) refl
  where
    same : n * up d * down e ≤ m * up e * down d → fin false m e ≡ fin false n d
    same o =
        let p : b ≤ a = le_of_mul-le-mul_right (transfer b a (2 ^ 1074) (2 ^ 1074) (n * up d) (m * up e) (down d) (down e) (down_pos d) (down_pos e) (sym k.1) (sym h.1) o) units in
        same_value (fin false m e) (fin false n d) b f g (subst (λ (c : ℕ). HasValue (fin false m e) false c (2 ^ 1074)) (le_antisymm l p) h) k

    go : (c : Bool) → ltb (m * up e * down d) (n * up d * down e) ≡ c → larger (fin false m e) (fin false n d) ≡ fin false n d
    go true q = larger_above (fin false m e) (fin false n d) q
    go false q = larger_first m e (fin false n d) q ∙ same (ltb-false (m * up e * down d) (n * up d * down e) q)

larger_first_value : (x y : Float) (a b : ℕ) → HasValue x false a (2 ^ 1074) → HasValue y false b (2 ^ 1074) → b ≤ a → larger x y ≡ x
unfolding lt
larger_first_value nan y a b h k l = absurd h
larger_first_value (inf s) y a b h k l = absurd h
larger_first_value (fin true m e) y a b h k l = absurd (true≢false h.0)
larger_first_value (fin false m e) nan a b h k l = absurd k
larger_first_value (fin false m e) (inf s) a b h k l = absurd k
larger_first_value (fin false m e) (fin true n d) a b h k l = absurd (true≢false k.0)
larger_first_value (fin false m e) (fin false n d) a b h k l =
    larger_first m e (fin false n d)
    (le-ltb (m * up e * down d) (n * up d * down e) (transfer (n * up d) (m * up e) (down d) (down e) b a (2 ^ 1074) (2 ^ 1074) units units k.1 h.1 (mul-le-mul_right (2 ^ 1074) l)))

-- ---- the larger with a NaN or an infinity

-- a NaN is ignored
nan_larger : (x : Float) → larger nan x ≡ x
unfolding larger is_nan
nan_larger x = refl

larger_nan : (x : Float) → larger x nan ≡ x
unfolding larger is_nan
larger_nan nan = refl
larger_nan (inf s) = refl
larger_nan (fin s m e) = refl

-- nothing is larger than the infinity
infinity_larger : (x : Float) → larger (inf false) x ≡ inf false
unfolding larger is_nan lt negative
infinity_larger nan = refl
infinity_larger (inf true) = refl
infinity_larger (inf false) = refl
infinity_larger (fin s m e) = refl

larger_infinity : (x : Float) → larger x (inf false) ≡ inf false
unfolding larger is_nan lt negative
larger_infinity nan = refl
larger_infinity (inf true) = refl
larger_infinity (inf false) = refl
larger_infinity (fin s m e) = refl

-- ---- roots

-- a zero's value
zero_value : (e : ℤ) → HasValue (fin false zero e) false 0 (2 ^ 1074)
zero_value e = (refl, none (up e) (2 ^ 1074) (down e))
  where
    none : (u c d : ℕ) → 0 * u * c ≡ 0 * d
    none u c d = omega arith

above_zero : (m : ℕ) (e : ℤ) → T (positive (fin false (suc m) e))
above_zero m e = lt→ltb 0 (suc m) (omega arith)

-- a zero is below a value above zero
zero_below : (n : ℕ) (e d : ℤ) → 0 * up e * down d < suc n * up d * down e
zero_below n e d = less (up e) (down d) (suc n * up d * down e) (mul-pos (mul-pos (some n) (up_pos d)) (down_pos e))
  where
    some : (n : ℕ) → 0 < suc n
    some n = omega arith

    less : (u v c : ℕ) → 0 < c → 0 * u * v < c
    less u v c h = omega arith

-- two values above zero
root_larger_above : (m n : ℕ) (e d : ℤ) → T (fits binary64 (fin false (suc m) e)) → T (fits binary64 (fin false (suc n) d))
    → sqrt (larger (fin false (suc m) e) (fin false (suc n) d)) ≡ larger (sqrt (fin false (suc m) e)) (sqrt (fin false (suc n) d))
unfolding lt
root_larger_above m n e d f g = go (ltb (suc m * up e * down d) (suc n * up d * down e)) refl
  where
    x : Float
    x = fin false (suc m) e

    y : Float
    y = fin false (suc n) d

    px : T (positive x)
    px = above_zero m e

    py : T (positive y)
    py = above_zero n d

    a : Nearest x (sqrt x)
    a = sqrt_nearest x f px

    b : Nearest y (sqrt y)
    b = sqrt_nearest y g py

    go : (c : Bool) → ltb (suc m * up e * down d) (suc n * up d * down e) ≡ c → sqrt (larger x y) ≡ larger (sqrt x) (sqrt y)
    go true q =
        ap sqrt (larger_above x y q)
        ∙ sym (larger_second_value (sqrt x) (sqrt y) a.root b.root (root_fits x px) (root_fits y py) a.is b.is (roots_ordered x y px py (below_le x y q) a b))
    go false q =
        ap sqrt (larger_first (suc m) e y q)
        ∙ sym (larger_first_value (sqrt x) (sqrt y) a.root b.root a.is b.is
        (roots_ordered y x py px (cross→le y x py px (ltb-false (suc m * up e * down d) (suc n * up d * down e) q)) b a))

-- The root of the larger of two is the larger of the roots.
pub root_larger : (x y : Float) → Plus x → Plus y → sqrt (larger x y) ≡ larger (sqrt x) (sqrt y)
unfolding sqrt negative lt
root_larger nan y p q = ap sqrt (nan_larger y) ∙ sym (nan_larger (sqrt y))
root_larger (inf true) y p q = absurd (true≢false p.plus)
root_larger (inf false) y p q = ap sqrt (infinity_larger y) ∙ sym (infinity_larger (sqrt y))
root_larger (fin true m e) y p q = absurd (true≢false p.plus)
root_larger (fin false m e) nan p q = ap sqrt (larger_nan (fin false m e)) ∙ sym (larger_nan (sqrt (fin false m e)))
root_larger (fin false m e) (inf true) p q = absurd (true≢false q.plus)
root_larger (fin false m e) (inf false) p q = ap sqrt (larger_infinity (fin false m e)) ∙ sym (larger_infinity (sqrt (fin false m e)))
root_larger (fin false m e) (fin true n d) p q = absurd (true≢false q.plus)
root_larger (fin false zero e) (fin false zero d) p q = larger_either (λ (z : Float). sqrt z ≡ z) (fin false zero e) (fin false zero d) refl refl
root_larger (fin false zero e) (fin false (suc n) d) p q =
    let b = sqrt_nearest (fin false (suc n) d) q.f64 (above_zero n d) in
    ap sqrt (larger_above (fin false zero e) (fin false (suc n) d) (lt-ltb (0 * up e * down d) (suc n * up d * down e) (zero_below n e d)))
    ∙ sym (larger_second_value (fin false zero e) (sqrt (fin false (suc n) d)) 0 b.root p.f64 (root_fits (fin false (suc n) d) (above_zero n d)) (zero_value e) b.is zero-le)
root_larger (fin false (suc m) e) (fin false zero d) p q =
    let a = sqrt_nearest (fin false (suc m) e) p.f64 (above_zero m e) in
    ap sqrt (larger_first (suc m) e (fin false zero d) (le-ltb (suc m * up e * down d) (0 * up d * down e) (le_of_lt (zero_below m d e))))
    ∙ sym (larger_first_value (sqrt (fin false (suc m) e)) (fin false zero d) a.root 0 a.is (zero_value d) zero-le)
root_larger (fin false (suc m) e) (fin false (suc n) d) p q = root_larger_above m n e d p.f64 q.f64
