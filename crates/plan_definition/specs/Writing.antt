-- A listing written as text, a bin line for each entry. Assumes nothing.
use Rattle.std.specs.Prelude.{Bool, true, false, ◌&&◌, List, [], ◌∷◌, ◌++◌, ℕ, zero, suc, leb, ltb, ℤ, nat_abs, length}
use Rattle.std.specs.Int.Signed.{non_neg}
use Rattle.body_refusals.specs.TableChecks.{most_bin}
use Rattle.lists.specs.Lists.{written}
use Rattle.plan_definition.specs.Places.{in_range}
use Rattle.plan_definition.specs.Grammar.{Entry, entry, bin_line}
use Rattle.plan_definition.specs.Reading.{malformed, out_of_range, too_many, most_entries}

-- the refusal of a slice too short
abbrev pub no_room : ℕ
no_room = 68

-- the entries of a lent list; numbers behind the last whole entry are none
unfoldable pub entries_in : List ℤ → List Entry
entries_in [] = []
entries_in (n ∷ []) = []
entries_in (n ∷ x ∷ []) = []
entries_in (n ∷ x ∷ y ∷ []) = []
entries_in (n ∷ x ∷ y ∷ z ∷ ns) = entry n (record { x = x; y = y; z = z }) ∷ entries_in ns

-- whether a bin's number is in range
abbrev pub bin_in_range : ℤ → Bool
bin_in_range n = non_neg n && leb (nat_abs n) most_bin

-- The refusal of the first offending entry, 0 if there is none: so many stand before them.
unfoldable pub listing_refusal : ℕ → List Entry → ℕ
listing_refusal count [] = 0
listing_refusal count (e ∷ es) = elim (bin_in_range e.bin) [
  | true ↦ elim (in_range e.place) [
    | true ↦ elim (ltb count most_entries) [ true ↦ listing_refusal (suc count) es | false ↦ too_many ]
    | false ↦ out_of_range
  ]
  | false ↦ malformed
]

-- the text of a listing
unfoldable pub listing_text : List Entry → List ℕ
listing_text [] = []
listing_text (e ∷ es) = bin_line e.bin e.place ++ listing_text es

-- what writing a listing comes to: its text, or a refusal
pub data Writing : Type 0 where
  Refused : ℕ → Writing
  Written : List ℕ → Writing

-- the text, if it fits a slice of so many bytes
unfoldable pub fitting : ℕ → List ℕ → Writing
fitting room text = elim (leb (length text) room) [ true ↦ Written text | false ↦ Refused no_room ]

-- what writing the entries into a slice of so many bytes comes to
unfoldable pub writing_of : ℕ → List Entry → Writing
writing_of room es = elim (listing_refusal 0 es) [ zero ↦ fitting room (listing_text es) | suc n ↦ Refused (suc n) ]

-- what writing leaves of the slice: the text in front, or all as it was
unfoldable pub text_after : Writing → List ℕ → List ℕ
text_after (Refused n) old = old
text_after (Written text) old = written text old
