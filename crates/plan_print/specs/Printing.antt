-- What is printed of a plan. Assumes nothing.
use Rattle.std.specs.Prelude.{List, ℕ, ℤ, length}
use Rattle.sheet_answer_text.specs.Answer.{Written, refusal_line}
use Rattle.plan_definition.specs.Reading as Reading
use Rattle.plan_definition.specs.Reading.{Reading, most_entries, plan_of, room_of}
use Rattle.plan_definition.specs.Writing as Writing
use Rattle.plan_definition.specs.Writing.{Writing, listing_text, writing_of}

-- What the program prints of a text: the listing, a bin line for each entry in the order read, or only the refusal.
unfoldable pub printed_reading : Reading → List ℕ
printed_reading (Reading.Refused n) = refusal_line n
printed_reading (Reading.Listed es) = listing_text es

unfoldable pub plan_program : List ℕ → List ℕ
plan_program text = printed_reading (plan_of most_entries text)

-- the text of what writing comes to
unfoldable pub written_text : Writing → List ℕ
written_text (Writing.Refused n) = refusal_line n
written_text (Writing.Written text) = text

-- the same with a list that has room for so many entries and a slice of so many bytes
unfoldable pub reading_text : ℕ → Reading → List ℕ
reading_text bytes (Reading.Refused n) = refusal_line n
reading_text bytes (Reading.Listed es) = written_text (writing_of bytes es)

-- r bytes were printed to the front of a slice that held E and holds W now, a list L having been lent for the entries
pub record Printed (text : List ℕ) (L : List ℤ) (E W : List ℕ) (r : ℕ) : Type 0 where
  pub is : Written E (reading_text (length E) (plan_of (room_of (length L)) text)) W r

-- the refusal of a plan that is longer than the program takes
abbrev pub too_long : ℕ
too_long = 52

-- What the program leaves in a slice that held E and holds W now, r bytes of which it prints: what is printed of some text, or the refusal of one too long.
pub data Answered (L : List ℤ) (E W : List ℕ) (r : ℕ) : Type 0 where
  answered : {text : List ℕ} → Printed text L E W r → Answered L E W r
  refused : Written E (refusal_line too_long) W r → Answered L E W r
