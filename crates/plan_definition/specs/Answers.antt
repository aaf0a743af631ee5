-- What reading a plan and writing a listing answer. Assumes nothing.
use Rattle.std.specs.Prelude.{List, ℕ, ℤ, length, Result, Ok, Err}
use Rattle.plan_definition.specs.Reading as Reading
use Rattle.plan_definition.specs.Reading.{Reading, plan_of, room_of}
use Rattle.plan_definition.specs.Writing as Writing
use Rattle.plan_definition.specs.Writing.{Writing, entries_in, writing_of}

-- what a text is read as, with a list that was lent
abbrev pub reading_of : List ℕ → List ℤ → Reading
reading_of text list = plan_of (room_of (length list)) text

-- its answer: how many bins, or the refusal
unfoldable pub plan_answer : Reading → Result ℕ ℕ
plan_answer (Reading.Refused n) = Err n
plan_answer (Reading.Listed es) = Ok (length es)

-- what writing a list that was lent comes to, with a slice of so many bytes
abbrev pub listing_of : List ℤ → List ℕ → Writing
listing_of list out = writing_of (length out) (entries_in list)

-- its answer: how many bytes, or the refusal
unfoldable pub listing_answer : Writing → Result ℕ ℕ
listing_answer (Writing.Refused n) = Err n
listing_answer (Writing.Written text) = Ok (length text)
