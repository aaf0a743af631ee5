-- Spans as the code makes them. Assumes nothing.
use mathlib.Core.Path.{◌≡◌, refl, sym, ap, ◌∙◌}
use mathlib.Core.Bool.{Bool, true, false, cond}
use lib.Ieee.{Float, binary64, neg, mul, div, lt, of_bits}
use Rattle.float_spans.specs.declared.Span.{Span}
use Rattle.float_spans.specs.Monotone.{nought}
use Rattle.float_spans.specs.Spans.{lower, higher, times, least_square, nearest_to_zero}
use Rattle.float_spans.specs.Hulls.{empty, hull}

-- the first is lower
pub lower_yes : (a b : Float) → lt a b ≡ true → a ≡ lower a b
lower_yes a b h = rw h

-- the second is
pub lower_no : (a b : Float) → lt a b ≡ false → b ≡ lower a b
lower_no a b h = rw h

-- the first is higher
pub higher_yes : (a b : Float) → lt b a ≡ true → a ≡ higher a b
higher_yes a b h = rw h

-- the second is
pub higher_no : (a b : Float) → lt b a ≡ false → b ≡ higher a b
higher_no a b h = rw h

-- a span by its ends
abbrev made : Float → Float → Span
made a b = record { low = a; high = b }

-- 0.0
zero_is : of_bits binary64 0 ≡ nought
unfolding of_bits
zero_is = refl

-- its square
no_square : mul binary64 nought nought ≡ nought
unfolding mul
no_square = refl

module _ (X : Span) where
  -- a span above zero
  pub nearest_low : lt (of_bits binary64 0) X.low ≡ true → X.low ≡ nearest_to_zero X
  nearest_low h = let k : lt nought X.low ≡ true = ap (λ (z : Float). lt z X.low) (sym zero_is) ∙ h in rw k

  -- a span below zero
  pub nearest_high : lt (of_bits binary64 0) X.low ≡ false → lt X.high (of_bits binary64 0) ≡ true → X.high ≡ nearest_to_zero X
  nearest_high h g =
      let k : lt nought X.low ≡ false = ap (λ (z : Float). lt z X.low) (sym zero_is) ∙ h in
      let l : lt X.high nought ≡ true = ap (λ (z : Float). lt X.high z) (sym zero_is) ∙ g in
      rw (k, l)

  -- any other span
  pub nearest_none : lt (of_bits binary64 0) X.low ≡ false → lt X.high (of_bits binary64 0) ≡ false → of_bits binary64 0 ≡ nearest_to_zero X
  nearest_none h g =
      let k : lt nought X.low ≡ false = ap (λ (z : Float). lt z X.low) (sym zero_is) ∙ h in
      let l : lt X.high nought ≡ false = ap (λ (z : Float). lt X.high z) (sym zero_is) ∙ g in
      rw (k, l) zero_is

  -- the square of what is nearest to 0
  pub square_is : {x : Float} → x ≡ nearest_to_zero X → mul binary64 x x ≡ least_square binary64 X
  square_is {x} e = (λ i. mul binary64 (e i) (e i)) ∙ go (lt nought X.low) (lt X.high nought)
    where
      go : (b c : Bool) → let z = cond b X.low (cond c X.high nought) in mul binary64 z z ≡ cond b (mul binary64 X.low X.low) (cond c (mul binary64 X.high X.high) nought)
      go true c = refl
      go false true = refl
      go false false = no_square

-- a hull, by its parts
pub hull_is : (X Y : Span) {a b : Float} → a ≡ lower X.low Y.low → b ≡ higher X.high Y.high → made a b ≡ hull X Y
hull_is X Y {a} {b} h k = ap (λ (z : Float). made z b) h ∙ ap (made (lower X.low Y.low)) k

-- 1 / 0 and its opposite
pub empty_is : made (div binary64 (of_bits binary64 0x3FF0000000000000) (of_bits binary64 0)) (neg (div binary64 (of_bits binary64 0x3FF0000000000000) (of_bits binary64 0))) ≡ empty
unfolding div of_bits neg
empty_is = refl
