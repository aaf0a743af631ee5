-- A line of the program `steps`, without its line feed: its forms, what each comes to, and how that is printed. Assumes nothing.
use Rattle.std.specs.Prelude.{List, [], ◌∷◌, ◌++◌, ℕ, Option, Some, None}
use Rattle.std.proofs.Math.Option.{none, some}
use Rattle.sheet_digits.specs.Bytes.{bytes}
use Rattle.sheet_digits.specs.Digits.{hex}
use Rattle.sheet_lines.specs.Forms.{Piece, Word, Bits, read}
use Rattle.float_steps.specs.Floats.{widen_bits, larger_bits}
use Rattle.float_narrow.specs.Narrow.{narrow_bits}
use Rattle.float_sqrt.specs.Roots.{sqrt_bits}
use Rattle.float_round.specs.Integral.{round_bits}
use Rattle.float_step_lines.specs.declared.Reply.{Reply}
use Rattle.float_step_lines.specs.declared.Reply.TheVariants.{Long, Short}

-- the float steps
pub data Step : Type 0 where
  Widen : Step
  Narrow : Step
  Sqrt : Step
  Round : Step
  Larger : Step

-- the form of a step's line: its name, then the bits of each operand
unfoldable pub form : Step → List Piece
form Widen = Word (bytes "widen") ∷ Bits 8 ∷ []
form Narrow = Word (bytes "narrow") ∷ Bits 16 ∷ []
form Sqrt = Word (bytes "sqrt") ∷ Bits 16 ∷ []
form Round = Word (bytes "round") ∷ Bits 16 ∷ []
form Larger = Word (bytes "larger") ∷ Bits 16 ∷ Bits 16 ∷ []

-- what a step of one operand comes to
abbrev pub of_one : (ℕ → Reply) → List ℕ → Option Reply
of_one step [] = None
of_one step (a ∷ []) = Some (step a)
of_one step (a ∷ b ∷ more) = None

-- what a step of two operands comes to
abbrev pub of_two : (ℕ → ℕ → Reply) → List ℕ → Option Reply
of_two step [] = None
of_two step (a ∷ []) = None
of_two step (a ∷ b ∷ []) = Some (step a b)
of_two step (a ∷ b ∷ c ∷ more) = None

-- what a step comes to, by its operands
unfoldable pub reply_of : Step → List ℕ → Option Reply
reply_of Widen bits = of_one (λ a. Long (widen_bits a)) bits
reply_of Narrow bits = of_one (λ a. Short (narrow_bits a)) bits
reply_of Sqrt bits = of_one (λ a. Long (sqrt_bits a)) bits
reply_of Round bits = of_one (λ a. Long (round_bits a)) bits
reply_of Larger bits = of_two (λ a b. Long (larger_bits a b)) bits

-- what a line comes to by the first of some steps whose form it has
unfoldable pub reply_among : List Step → List ℕ → Option Reply
reply_among [] line = None
reply_among (s ∷ ss) line = elim (read (form s) line) [ none ↦ reply_among ss line | some bits ↦ reply_of s bits ]

-- what a line comes to; at most one form fits
unfoldable pub reply_to : List ℕ → Option Reply
reply_to line = reply_among (Widen ∷ Narrow ∷ Sqrt ∷ Round ∷ Larger ∷ []) line

-- the line that is printed, with its line feed
unfoldable pub printed : Option Reply → List ℕ
printed (Some (Long b)) = hex 16 b ++ 10 ∷ []
printed (Some (Short b)) = hex 8 b ++ 10 ∷ []
printed None = bytes "(refused 51)" ++ 10 ∷ []
