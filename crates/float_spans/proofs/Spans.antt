-- What a quotient, a product and a square of a held number is held by. Assumes nothing.
use Rattle.std.specs.Prelude.{◌≡◌, ◌⊎◌, T, Float}
use Rattle.std.proofs.Common.{sym, subst, inl, inr}
use Rattle.std.specs.Float.Ieee.{nan, mul, div, le}
use Rattle.std.specs.Float.{Format}
use Rattle.std.specs.Float.Ieee.Positive.{above}
use Rattle.std.specs.Float.Ieee.Scale.{finite}
use Rattle.float_spans.specs.declared.Span.{Span}
use Rattle.float_spans.specs.Rounds.{number}
use Rattle.float_spans.specs.Monotone.{nought, mul_le, mul_ge}
use Rattle.float_spans.specs.Orders.{NotBelow, below_of_le, le_trans, number_le}
use Rattle.float_spans.specs.Everywhere.{finite_number, nan_mul}
use Rattle.float_spans.proofs.Everywhere.{div_keeps}
use Rattle.float_spans.specs.Squares.{finite_between}
use Rattle.float_spans.specs.Spans.{holds_of_le, low_le, le_high, over, lower, higher, times, least_square, lower_le, le_higher, signed, nan_holds, cases, square_le, Holds, Finite}

-- c is above zero, the infinity included
pub over_holds : (f : Format) {X : Span} {x : Float} (c : Float) → T (above c) → Holds X x → Holds (over f X c) (div f x c)
over_holds f c p h = record { least = div_keeps f c p h.least; most = div_keeps f c p h.most }

-- what lies between a and b, either way round
between : (a b x : Float) → (T (le a x) × T (le x b)) ⊎ (T (le b x) × T (le x a)) → T (le (lower a b) x) × T (le x (higher a b))
between a b x (inl (h, k)) =
    let p = (number_le a x h).0 in
    let q = (number_le x b k).1 in
    (le_trans (lower a b) a x (lower_le a b p q).0 h, le_trans x b (higher a b) k (le_higher a b p q).1)
between a b x (inr (h, k)) =
    let p = (number_le x a k).1 in
    let q = (number_le b x h).0 in
    (le_trans (lower a b) b x (lower_le a b p q).1 h, le_trans x a (higher a b) k (le_higher a b p q).0)

-- x * c lies in X times c, for finite ends and a finite c
pub times_holds : (f : Format) {X : Span} {x : Float} (c : Float) → Finite X → T (finite c) → Holds X x → Holds (times f X c) (mul f x c)
times_holds f {X} {x} c g r h = go (cases x)
  where
    numbers : T (number x) → Holds (times f X c) (mul f x c)
    numbers q =
        let p = finite_between X.low x X.high g.low g.high q h.least h.most in
        let a = low_le X x (finite_number X.low g.low) q h in
        let b = le_high X x (finite_number X.high g.high) q h in
        let ends = between (mul f X.low c) (mul f X.high c) (mul f x c) (elim (signed c r) [
          | inl s ↦ inl (mul_le f X.low x c g.low p r s a, mul_le f x X.high c p g.high r s b)
          | inr s ↦ inr (mul_ge f x X.high c p g.high r s b, mul_ge f X.low x c g.low p r s a)
        ]) in
        holds_of_le (times f X c) (mul f x c) ends.0 ends.1

    go : (x ≡ nan) ⊎ T (number x) → Holds (times f X c) (mul f x c)
    go (inl e) = subst (λ (z : Float). Holds (times f X c) (mul f z c)) (sym e) (subst (λ (z : Float). Holds (times f X c) z) (sym (nan_mul f c)) (nan_holds (times f X c)))
    go (inr q) = numbers q

-- of any float in a span
pub square_holds : (f : Format) (X : Span) (x : Float) → Holds X x → NotBelow (mul f x x) (least_square f X)
square_holds f X x h = go (cases x)
  where
    go : (x ≡ nan) ⊎ T (number x) → NotBelow (mul f x x) (least_square f X)
    go (inl e) =
        subst (λ (z : Float). NotBelow (mul f z z) (least_square f X)) (sym e)
        (subst (λ (z : Float). NotBelow z (least_square f X)) (sym (nan_mul f nan)) (nan_holds (record { low = least_square f X; high = nought })).least)
    go (inr p) = below_of_le (mul f x x) (least_square f X) (square_le f X x p h)
