-- The lines of a plan's text, and what each is read as. Assumes nothing.
use Rattle.std.specs.Prelude.{Bool, true, false, ◌&&◌, cond, List, [], ◌∷◌, ℕ, leb, eqb, ℤ, pos, ◌-ℤ◌}
use Rattle.std.proofs.Math.Option.{Option, none, some}
use Rattle.body_refusals.specs.TableChecks.{most_bin}
use Rattle.sheet_digits.specs.Bytes.{bytes}
use Rattle.signed_numbers.specs.Range.{farthest}
use Rattle.sheet_lines.specs.Forms.{Piece, Word, Number, Offset, read}
use Rattle.plan_definition.specs.Places.{Place, in_range}
use Rattle.plan_definition.specs.Grammar.{group_line, bin_line, close_line}

-- a byte before the first of some lines, or a line of it alone
unfoldable pub joined : ℕ → List (List ℕ) → List (List ℕ)
joined c [] = (c ∷ []) ∷ []
joined c (l ∷ ls) = (c ∷ l) ∷ ls

-- the lines of a text, each with the LF that ends it; the last may lack its LF
unfoldable pub lines_of : List ℕ → List (List ℕ)
lines_of [] = []
lines_of (c ∷ cs) = elim (eqb c 10) [ true ↦ (10 ∷ []) ∷ lines_of cs | false ↦ joined c (lines_of cs) ]

-- a line of a plan: a group is opened, a bin stands, a group is closed
pub data Line : Type 0 where
  Open : Place → Line
  Bin : ℕ → Place → Line
  Close : Line

-- ---- their forms, each with its LF
abbrev pub group_form : List Piece
group_form = Word (bytes "(group") ∷ Offset ∷ Offset ∷ Offset ∷ Word (10 ∷ []) ∷ []

abbrev pub bin_form : List Piece
bin_form = Word (bytes "(bin") ∷ Number ∷ Offset ∷ Offset ∷ Offset ∷ Word (bytes ")") ∷ Word (10 ∷ []) ∷ []

abbrev pub close_form : List Piece
close_form = Word (bytes ")") ∷ Word (10 ∷ []) ∷ []

-- the offset of a word, which is 2^40 more
abbrev pub offset_of : ℕ → ℤ
offset_of n = pos n -ℤ pos farthest

-- three offsets
abbrev pub offsets_of : ℕ → ℕ → ℕ → Place
offsets_of x y z = record { x = offset_of x; y = offset_of y; z = offset_of z }

-- what the numbers of a group's line mean
unfoldable pub opened : List ℕ → Option Line
opened [] = none
opened (x ∷ []) = none
opened (x ∷ y ∷ []) = none
opened (x ∷ y ∷ z ∷ []) = some (Open (offsets_of x y z))
opened (x ∷ y ∷ z ∷ n ∷ ns) = none

-- what the numbers of a bin's line mean: a bin's number out of range is no such line
unfoldable pub standing : List ℕ → Option Line
standing [] = none
standing (n ∷ []) = none
standing (n ∷ x ∷ []) = none
standing (n ∷ x ∷ y ∷ []) = none
standing (n ∷ x ∷ y ∷ z ∷ []) = cond (leb n most_bin) (some (Bin n (offsets_of x y z))) none
standing (n ∷ x ∷ y ∷ z ∷ m ∷ ns) = none

-- the line that a text with its LF is, if it is one
unfoldable pub line_of : List ℕ → Option Line
line_of xs = elim (read group_form xs) [
  | some ns ↦ opened ns
  | none ↦ elim (read bin_form xs) [ some ns ↦ standing ns | none ↦ elim (read close_form xs) [ some ns ↦ some Close | none ↦ none ] ]
]

-- ---- and their text

-- the text of a line, with its LF
unfoldable pub line_text : Line → List ℕ
line_text (Open o) = group_line o
line_text (Bin n o) = bin_line (pos n) o
line_text Close = close_line

-- whether its numbers are in range
unfoldable pub line_fits : Line → Bool
line_fits (Open o) = in_range o
line_fits (Bin n o) = leb n most_bin && in_range o
line_fits Close = true
