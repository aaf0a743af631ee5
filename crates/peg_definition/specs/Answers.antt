-- What the code answers for a lookup. Assumes nothing.
use Rattle.std.specs.Prelude.{length, ℕ, Result, Ok, Err}
use Rattle.peg_definition.specs.Peg.{Lookup, Refused, Found}

-- how many bins, or the refusal
unfoldable pub peg_answer : Lookup → Result ℕ ℕ
peg_answer (Refused n) = Err n
peg_answer (Found bins) = Ok (length bins)
