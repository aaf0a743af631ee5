-- What a plan's text is read as: the number of the first offending line, or the bins in the order read. Assumes nothing.
use Rattle.std.specs.Prelude.{true, false, List, [], ◌∷◌, ◌++◌, ℕ, zero, suc, ◌/◌, min, ltb, ℤ, pos, length}
use Rattle.std.proofs.Math.Option.{none, some}
use Rattle.lists.specs.Lists.{written}
use Rattle.plan_definition.specs.Places.{Place, total, in_range}
use Rattle.plan_definition.specs.Grammar.{Entry, entry, most_depth}
use Rattle.plan_definition.specs.Lines.{Open, Bin, Close, line_of, lines_of}

-- the refusals
abbrev pub malformed : ℕ
malformed = 61

abbrev pub too_deep : ℕ
too_deep = 62

abbrev pub out_of_range : ℕ
out_of_range = 63

abbrev pub too_many : ℕ
too_many = 64

-- the groups that are open once the innermost is closed
abbrev pub outer : List Place → List Place
outer [] = []
outer (o ∷ path) = path

-- The number of the first offending line, 0 if there is none: the groups of a path are open, the list has room for so many bins, and so many stand already.
unfoldable pub refusal_of : ℕ → List Place → ℕ → List (List ℕ) → ℕ
refusal_of room [] count [] = 0
refusal_of room (o ∷ path) count [] = malformed
refusal_of room path count (l ∷ ls) = elim (line_of l) [
  | none ↦ malformed
  | some (Open o) ↦ elim (ltb (length path) most_depth) [ true ↦ refusal_of room (o ∷ path) count ls | false ↦ too_deep ]
  | some (Bin n o) ↦ elim (in_range (total (o ∷ path))) [
    | true ↦ elim (ltb count room) [ true ↦ refusal_of room path (suc count) ls | false ↦ too_many ]
    | false ↦ out_of_range
  ]
  | some Close ↦ elim (ltb 0 (length path)) [ true ↦ refusal_of room (outer path) count ls | false ↦ malformed ]
]

-- the bins in the order read, each at the sum along its path
unfoldable pub entries_of : List Place → List (List ℕ) → List Entry
entries_of path [] = []
entries_of path (l ∷ ls) = elim (line_of l) [
  | none ↦ []
  | some (Open o) ↦ entries_of (o ∷ path) ls
  | some (Bin n o) ↦ entry (pos n) (total (o ∷ path)) ∷ entries_of path ls
  | some Close ↦ entries_of (outer path) ls
]

-- what a text is read as
pub data Reading : Type 0 where
  Refused : ℕ → Reading
  Listed : List Entry → Reading

-- what it is, with a list that has room for so many bins
unfoldable pub plan_of : ℕ → List ℕ → Reading
plan_of room text = elim (refusal_of room [] 0 (lines_of text)) [ zero ↦ Listed (entries_of [] (lines_of text)) | suc n ↦ Refused (suc n) ]

-- ---- lent lists

-- numbers of an entry in a lent list: bin, x, y, z
abbrev pub entry_width : ℕ
entry_width = 4

-- the most bins of a plan
abbrev pub most_entries : ℕ
most_entries = 4096

-- how many bins a lent list of so many numbers has room for
abbrev pub room_of : ℕ → ℕ
room_of n = min (n / entry_width) most_entries

-- entries as a lent list has them
unfoldable pub list_of : List Entry → List ℤ
list_of [] = []
list_of (e ∷ es) = e.bin ∷ e.place.x ∷ e.place.y ∷ e.place.z ∷ list_of es

-- what reading leaves of a lent list: the entries in front, or all as it was
unfoldable pub list_after : Reading → List ℤ → List ℤ
list_after (Refused n) old = old
list_after (Listed es) old = written (list_of es) old
