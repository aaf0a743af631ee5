-- `hex_digit` meets its contract. Assumes nothing.
use Rattle.sheet_digit_reading.proofs.ReadLaws.{hex_there, hex_low, hex_high}
use native.Mathlib.Omega.{arith}
use borrow.Author.Rules.{rules}
use Rattle.sheet_digit_reading.proofs.hex_digit.Goals as goal
use Rattle.sheet_digit_reading.proofs.hex_digit.Goals.{in_default-via-then-c-lt65, in_default-via-else-c-lt65+else-c-lt71}

pub returns-in-65-to-70 : goal.returns-in-65-to-70
returns-in-65-to-70 c = search (rules, hex_there)

pub returns-in_default : goal.returns-in_default
returns-in_default c = elim c.in_default.branch [
  | in_default-via-then-c-lt65 w ↦ hex_low _ _ (omega arith) c.decimal_digit.ensures
  | in_default-via-else-c-lt65+else-c-lt71 w ↦ hex_high _ _ (omega arith) c.decimal_digit.ensures
]
