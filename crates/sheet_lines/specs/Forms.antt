-- The forms of the lines, of the sheet and of what is printed: one description serves reading and printing. Assumes nothing.
use Rattle.std.specs.Prelude.{true, false, List, [], ◌∷◌, ◌++◌, ℕ, zero, suc, eqb}
use Rattle.std.proofs.Math.Option.{Option, none, some}
use Rattle.sheet_lines.specs.declared.Kind.{Kind}
use Rattle.sheet_lines.specs.declared.Kind.TheVariants.{Box, Sag, NoDefault, Default, Material, Face, FaceBin, Vertex, Triangle, Fail, FailBin}
use Rattle.sheet_digits.specs.Bytes.{bytes}
use Rattle.sheet_digits.specs.Digits.{Found, hex, decimal, read_hex, read_decimal}
use Rattle.sheet_digits.specs.Offsets.{offset, read_offset}

-- a piece of a line: bytes that stand as they are; a space and bits of so many hex digits; a space and a decimal number; a space and an offset, which may have a minus
pub data Piece : Type 0 where
  Word : List ℕ → Piece
  Bits : ℕ → Piece
  Number : Piece
  Offset : Piece

-- a line of the form, without its LF, for the numbers given
unfoldable pub print : List Piece → List ℕ → List ℕ
print [] ns = []
print (Word w ∷ ps) ns = w ++ print ps ns
print (Bits k ∷ ps) [] = []
print (Bits k ∷ ps) (n ∷ ns) = 32 ∷ (hex k n ++ print ps ns)
print (Number ∷ ps) [] = []
print (Number ∷ ps) (n ∷ ns) = 32 ∷ (decimal n ++ print ps ns)
print (Offset ∷ ps) [] = []
print (Offset ∷ ps) (n ∷ ns) = 32 ∷ (offset n ++ print ps ns)

-- a line with its LF
unfoldable pub line : List Piece → List ℕ → List ℕ
line form ns = print form ns ++ 10 ∷ []

-- what follows a word, if the text begins with it
unfoldable pub after_word : List ℕ → List ℕ → Option (List ℕ)
after_word [] xs = some xs
after_word (w ∷ ws) [] = none
after_word (w ∷ ws) (x ∷ xs) = elim (eqb w x) [ true ↦ after_word ws xs | false ↦ none ]

-- the text begins with a space and the number
unfoldable pub spaced : (List ℕ → Option Found) → List ℕ → Option Found
spaced f [] = none
spaced f (x ∷ xs) = elim (eqb x 32) [ true ↦ f xs | false ↦ none ]

-- the numbers of a line of the form, if it is one
unfoldable pub read : List Piece → List ℕ → Option (List ℕ)
read [] [] = some []
read [] (x ∷ xs) = none
read (Word w ∷ ps) xs = elim (after_word w xs) [ none ↦ none | some rest ↦ read ps rest ]
read (Bits k ∷ ps) xs = elim (spaced (read_hex k) xs) [
  | none ↦ none
  | some f ↦ elim (read ps f.rest) [ none ↦ none | some ns ↦ some (f.value ∷ ns) ]
]
read (Number ∷ ps) xs = elim (spaced read_decimal xs) [
  | none ↦ none
  | some f ↦ elim (read ps f.rest) [ none ↦ none | some ns ↦ some (f.value ∷ ns) ]
]
read (Offset ∷ ps) xs = elim (spaced read_offset xs) [
  | none ↦ none
  | some f ↦ elim (read ps f.rest) [ none ↦ none | some ns ↦ some (f.value ∷ ns) ]
]

-- ---- the lines of the sheet

-- a vertex: the bits of its position and normal; printed too
abbrev pub vertex_form : List Piece
vertex_form = Word (bytes "(v (p") ∷ Bits 8 ∷ Bits 8 ∷ Bits 8 ∷ Word (bytes ") (n") ∷ Bits 8 ∷ Bits 8 ∷ Bits 8 ∷ Word (bytes "))") ∷ []

-- so many decimal numbers, and the bracket that closes the line
unfoldable pub numbers : ℕ → List Piece
numbers zero = Word (bytes ")") ∷ []
numbers (suc k) = Number ∷ numbers k

-- a triangle: its three indices; printed too
abbrev pub triangle_form : List Piece
triangle_form = Word (bytes "(t") ∷ numbers 3

-- The form of each kind: floats are upper-case hex bits, other numbers decimal below 2^32 without leading zeros; - is no default, and a face or a fail line may have a bin as its last number.
unfoldable pub form : Kind → List Piece
form Box = Word (bytes "(box") ∷ Bits 16 ∷ Bits 16 ∷ Bits 16 ∷ Bits 16 ∷ Bits 16 ∷ Bits 16 ∷ Word (bytes ")") ∷ []
form Sag = Word (bytes "(sag") ∷ Bits 16 ∷ Word (bytes ")") ∷ []
form NoDefault = Word (bytes "(default -)") ∷ []
form Default = Word (bytes "(default") ∷ numbers 1
form Material = Word (bytes "(material") ∷ numbers 2
form Face = Word (bytes "(face") ∷ numbers 2
form FaceBin = Word (bytes "(face") ∷ numbers 3
form Vertex = vertex_form
form Triangle = triangle_form
form Fail = Word (bytes "(fail") ∷ numbers 3
form FailBin = Word (bytes "(fail") ∷ numbers 4

-- a line that was read: its kind and its numbers
pub record Line : Type 0 where
  pub kind : Kind
  pub numbers : List ℕ

-- a line of the first of some kinds whose form it has
unfoldable pub line_among : List Kind → List ℕ → Option Line
line_among [] xs = none
line_among (k ∷ ks) xs = elim (read (form k) xs) [ none ↦ line_among ks xs | some ns ↦ some (record { kind = k; numbers = ns }) ]

-- a line of the sheet; at most one form fits
unfoldable pub line_of : List ℕ → Option Line
line_of xs = line_among (Box ∷ Sag ∷ NoDefault ∷ Default ∷ Material ∷ Vertex ∷ Triangle ∷ Face ∷ FaceBin ∷ Fail ∷ FailBin ∷ []) xs
