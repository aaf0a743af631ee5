-- The code's answers as the definitions' own. Assumes nothing.
use Rattle.std.specs.Prelude.{List, ◌≡◌, ℕ, ◌^◌, ◌<◌, ◌≤◌, length, drop, Option, Some, None, MatchOption, IfSome}
use Rattle.std.proofs.Math.Option as maybe
use Rattle.sheet_digits.specs.Digits.{Found, digit_of, found}
use Rattle.sheet_digit_reading.specs.declared.Taken.{Taken}

-- the digit below a base of at most 16 that a byte stands for, or none
abbrev pub Digit : ℕ → ℕ → Option ℕ → Type 0
Digit c base r = MatchOption r (base ≤ digit_of c) (λ d. (d ≡ digit_of c) × (d < base))

-- a number that was read from a text and what follows it, or none
abbrev pub given : List ℕ → Option Taken → maybe.Option Found
given text None = maybe.none
given text (Some t) = maybe.some (found t.value (drop t.next text))

-- r is the number that reading a text found, below a bound, and its place lies in the text
pub record Number (text : List ℕ) (bound : ℕ) (o : maybe.Option Found) (r : Option Taken) : Type 0 where
  pub is : given text r ≡ o
  pub small : IfSome r (λ t. t.value < bound)
  pub within : IfSome r (λ t. t.next ≤ length text)

-- a largest number to read: every digit is at most it, and no sum on the way to it overflows
pub record Bound (most : ℕ) : Type 0 where
  pub least : 9 ≤ most
  pub highest : most ≤ 2 ^ 59
