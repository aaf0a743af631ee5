-- The code's answers as the definitions' own. Assumes nothing.
use Rattle.std.specs.Prelude.{Bool, cond, List, ◌≡◌, ℕ, ◌≤◌, length, take, Option, Some, None, IfSome}
use Rattle.std.proofs.Math.Option as maybe
use Rattle.sheet_digits.specs.Digits.{Found}
use Rattle.sheet_digit_reading.specs.Given as Digits
use Rattle.sheet_digit_reading.specs.declared.Taken.{Taken}
use Rattle.sheet_lines.specs.declared.Kind.{Kind}
use Rattle.sheet_lines.specs.Forms.{Piece, Line, read, form}
use Rattle.sheet_lines.specs.Counted.{count_in}
use Rattle.sheet_lines.specs.Pattern.{numbers_of, piece}

-- r is what reading a piece of a line found
pub record PieceTaken (line : List ℕ) (o : maybe.Option Found) (r : Option Taken) : Type 0 where
  pub is : Digits.given line r ≡ o
  pub within : IfSome r (λ t. t.next ≤ length line)

-- r is how many numbers a byte of a form stands for
pub record Numbers (c r : ℕ) : Type 0 where
  pub is : r ≡ numbers_of (piece c)
  pub few : r ≤ 1

-- r says whether a line has a form, and its numbers stand in front of N
pub record Scanned (ps : List Piece) (line N : List ℕ) (r : Bool) : Type 0 where
  pub is : cond r (maybe.some (take (count_in ps) N)) maybe.none ≡ read ps line

-- the kind of a line and its numbers, which stand in front of N
unfoldable pub given : Option Kind → List ℕ → maybe.Option Line
given (Some k) N = maybe.some (record { kind = k; numbers = take (count_in (form k)) N })
given None N = maybe.none
