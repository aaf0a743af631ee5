-- Spans of floats: what is computed from a float of a span lies in the span that is computed from its ends. Assumes nothing.
use Rattle.std.specs.Prelude.{◌≡◌, refl, ◌⊎◌, Bool, true, false, cond, T, Float}
use Rattle.std.proofs.Common.{sym, subst, inl, inr}
use Rattle.std.specs.Float.Ieee.{nan, add, sub, mul, div, lt, le}
use Rattle.std.specs.Float.{inf, fin, Format}
use Rattle.std.specs.Float.Ieee.Positive.{above}
use Rattle.std.specs.Float.Ieee.Scale.{finite}
use Rattle.float_spans.specs.declared.Span.{Span}
use Rattle.float_spans.specs.Rounds.{number}
use Rattle.float_spans.specs.Monotone.{nought, mul_le, mul_ge}
use Rattle.float_spans.specs.Orders.{NotBelow, not_below, le_of_not, below_of_le, le_of_below, le_trans, le_of_lt, le_self, not_self, number_le}
use Rattle.float_spans.specs.Everywhere.{finite_number, tail, nan_mul, add_keeps, sub_keeps}
use Rattle.float_spans.specs.Squares.{nought_le, upper_square, square_above, square_under, finite_between}

-- x lies in X: it is not below the low end and not above the high one. An end that is a NaN says nothing, and a NaN lies in every span.
pub record Holds (X : Span) (x : Float) : Type 0 where
  pub least : NotBelow x X.low
  pub most : NotBelow X.high x

-- both ends are finite
pub record Finite (X : Span) : Type 0 where
  pub low : T (finite X.low)
  pub high : T (finite X.high)

-- low ≤ x ≤ high gives it
pub holds_of_le : (X : Span) (x : Float) → T (le X.low x) → T (le x X.high) → Holds X x
holds_of_le X x h k = record { least = below_of_le x X.low h; most = below_of_le X.high x k }

-- and is given by it, of numbers
pub low_le : (X : Span) (x : Float) → T (number X.low) → T (number x) → Holds X x → T (le X.low x)
low_le X x p q h = le_of_below x X.low q p h.least

-- the same of the high end
pub le_high : (X : Span) (x : Float) → T (number X.high) → T (number x) → Holds X x → T (le x X.high)
le_high X x p q h = le_of_below X.high x p q h.most

-- ---- the operations on spans
-- x - c for x in X
abbrev pub less : Format → Span → Float → Span
less f X c = record { low = sub f X.low c; high = sub f X.high c }

-- x + y for x in X and y in Y
abbrev pub plus : Format → Span → Span → Span
plus f X Y = record { low = add f X.low Y.low; high = add f X.high Y.high }

-- x - y for x in X and y in Y
abbrev pub minus : Format → Span → Span → Span
minus f X Y = record { low = sub f X.low Y.high; high = sub f X.high Y.low }

-- x / c for x in X
abbrev pub over : Format → Span → Float → Span
over f X c = record { low = div f X.low c; high = div f X.high c }

-- the first where it is below the second, else the second
abbrev pub lower : Float → Float → Float
lower a b = cond (lt a b) a b

-- the first where it is above the second, else the second
abbrev pub higher : Float → Float → Float
higher a b = cond (lt b a) a b

-- x * c for x in X
abbrev pub times : Format → Span → Float → Span
times f X c = record { low = lower (mul f X.low c) (mul f X.high c); high = higher (mul f X.low c) (mul f X.high c) }

-- the float of X that is nearest to 0
abbrev pub nearest_to_zero : Span → Float
nearest_to_zero X = cond (lt nought X.low) X.low (cond (lt X.high nought) X.high nought)

-- what x * x is not below for x in X
abbrev pub least_square : Format → Span → Float
least_square f X = cond (lt nought X.low) (mul f X.low X.low) (cond (lt X.high nought) (mul f X.high X.high) nought)

-- ---- the laws of membership that need no premise
-- x - c lies in X less c
pub less_holds : (f : Format) {X : Span} {x : Float} (c : Float) → Holds X x → Holds (less f X c) (sub f x c)
less_holds f c h = record { least = sub_keeps f h.least (not_self c); most = sub_keeps f h.most (not_self c) }

-- x + y lies in the sum of the spans
pub plus_holds : (f : Format) {X Y : Span} {x y : Float} → Holds X x → Holds Y y → Holds (plus f X Y) (add f x y)
plus_holds f h k = record { least = add_keeps f h.least k.least; most = add_keeps f h.most k.most }

-- x - y lies in the difference of the spans
pub minus_holds : (f : Format) {X Y : Span} {x y : Float} → Holds X x → Holds Y y → Holds (minus f X Y) (sub f x y)
minus_holds f h k = record { least = sub_keeps f h.least k.most; most = sub_keeps f h.most k.least }

-- ---- the product, for finite ends and a finite c
-- the lower of two is not above either
pub lower_le : (a b : Float) → T (number a) → T (number b) → T (le (lower a b) a) × T (le (lower a b) b)
lower_le a b p q = go (lt a b) (le_of_lt a b) (le_of_not a b p q)
  where
    go : (t : Bool) → (T t → T (le a b)) → ((T t → ⊥) → T (le b a)) → T (le (cond t a b) a) × T (le (cond t a b) b)
    go true h k = (le_self a p, h tt)
    go false h k = (k (λ x. x), le_self b q)

-- the higher of two is not below either
pub le_higher : (a b : Float) → T (number a) → T (number b) → T (le a (higher a b)) × T (le b (higher a b))
le_higher a b p q = go (lt b a) (le_of_lt b a) (le_of_not b a q p)
  where
    go : (t : Bool) → (T t → T (le b a)) → ((T t → ⊥) → T (le a b)) → T (le a (cond t a b)) × T (le b (cond t a b))
    go true h k = (le_self a p, h tt)
    go false h k = (k (λ x. x), le_self b q)

-- a finite float is not below zero, or not above it
pub signed : (c : Float) → T (finite c) → T (le nought c) ⊎ T (le c nought)
signed c p = go (lt c nought) (le_of_lt c nought) (le_of_not c nought (finite_number c p) tt)
  where
    go : (t : Bool) → (T t → T (le c nought)) → ((T t → ⊥) → T (le nought c)) → T (le nought c) ⊎ T (le c nought)
    go true h k = inr (h tt)
    go false h k = inl (k (λ x. x))

-- a NaN lies in every span
pub nan_holds : (X : Span) → Holds X nan
nan_holds X = record { least = not_below nan X.low (λ h. unfold lt in h); most = not_below X.high nan (tail X.high) }

-- a float of a span is a NaN, or a number
pub cases : (x : Float) → (x ≡ nan) ⊎ T (number x)
cases nan = inl refl
cases (inf s) = inr tt
cases (fin s m e) = inr tt

-- ---- the square
-- of a number in a span
pub square_le : (f : Format) (X : Span) (x : Float) → T (number x) → Holds X x → T (le (least_square f X) (mul f x x))
square_le f X x p h = go (lt nought X.low) (lt X.high nought) (λ t. square_above f X.low x t p h.least) (λ t. square_under f X.high x t p h.most)
  where
    go : (a b : Bool) → (T a → T (le (mul f X.low X.low) (mul f x x))) → (T b → T (le (mul f X.high X.high) (mul f x x)))
        → T (le (cond a (mul f X.low X.low) (cond b (mul f X.high X.high) nought)) (mul f x x))
    go true b k l = k tt
    go false true k l = l tt
    go false false k l = nought_le (mul f x x) (upper_square f x p)
