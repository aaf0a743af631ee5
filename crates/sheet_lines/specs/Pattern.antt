-- A form as one text: `#` stands for a space and a decimal number, `%` for a space and an offset, `*` for a space and 8 digits of hex, `$` for a space
-- and 16, and any other byte for itself. Assumes nothing.
use Rattle.std.specs.Prelude.{Bool, true, false, cond, List, [], ◌∷◌, ◌++◌, map, ◌≡◌, refl, ℕ, eqb}
use Rattle.std.proofs.Math.Option.{Option, none, some}
use Rattle.std.proofs.Common.{◌∙◌, ap}
use Rattle.sheet_digits.specs.Bytes.{bytes}
use Rattle.sheet_digits.specs.Digits.{Found, found, hex, decimal, read_hex, read_decimal}
use Rattle.sheet_digits.specs.Offsets.{offset, read_offset}
use Rattle.sheet_lines.specs.declared.Kind.{Kind}
use Rattle.sheet_lines.specs.declared.Kind.TheVariants.{Box, Sag, NoDefault, Default, Material, Face, FaceBin, Vertex, Triangle, Fail, FailBin}
use Rattle.sheet_lines.specs.Forms.{Piece, Word, Bits, Number, Offset, print, line, after_word, spaced, read, form, numbers}

-- what a byte of such a text stands for
unfoldable pub piece : ℕ → Piece
piece c = cond (eqb c 35) Number (cond (eqb c 36) (Bits 16) (cond (eqb c 42) (Bits 8) (cond (eqb c 37) Offset (Word (c ∷ [])))))

-- the pieces of a form
abbrev pub pieces : List ℕ → List Piece
pieces cs = map piece cs

-- the text of each kind's form
abbrev pub pattern : Kind → List ℕ
pattern Box = bytes "(box$$$$$$)"
pattern Sag = bytes "(sag$)"
pattern NoDefault = bytes "(default -)"
pattern Default = bytes "(default#)"
pattern Material = bytes "(material##)"
pattern Face = bytes "(face##)"
pattern FaceBin = bytes "(face###)"
pattern Vertex = bytes "(v (p***) (n***))"
pattern Triangle = bytes "(t###)"
pattern Fail = bytes "(fail###)"
pattern FailBin = bytes "(fail####)"

-- the kinds of the lines that open a row
abbrev pub opening : List Kind
opening = Face ∷ FaceBin ∷ Fail ∷ FailBin ∷ []

-- the kinds of the lines after the default
abbrev pub later : List Kind
later = Material ∷ Vertex ∷ Triangle ∷ opening

-- ---- one piece

-- how many numbers a piece has
unfoldable pub numbers_of : Piece → ℕ
numbers_of (Word w) = 0
numbers_of (Bits k) = 1
numbers_of Number = 1
numbers_of Offset = 1

-- the text of a piece's number; a word has none
unfoldable pub print_number : Piece → ℕ → List ℕ
print_number (Word w) n = []
print_number (Bits k) n = hex k n
print_number Number n = decimal n
print_number Offset n = offset n

-- the text of a piece, for the number given
unfoldable pub print_piece : Piece → ℕ → List ℕ
print_piece (Word w) n = w
print_piece (Bits k) n = 32 ∷ hex k n
print_piece Number n = 32 ∷ decimal n
print_piece Offset n = 32 ∷ offset n

-- a byte, if the text begins with it
abbrev pub read_byte : ℕ → List ℕ → Option Found
read_byte c xs = elim (after_word (c ∷ []) xs) [ none ↦ none | some rest ↦ some (found 0 rest) ]

-- the number of a piece, if the text begins with it; a word has none
unfoldable pub read_number : Piece → List ℕ → Option Found
read_number (Word w) xs = none
read_number (Bits k) xs = read_hex k xs
read_number Number xs = read_decimal xs
read_number Offset xs = read_offset xs

-- the number of a piece, 0 for a word, and what follows it
unfoldable pub read_piece : Piece → List ℕ → Option Found
read_piece (Word w) xs = elim (after_word w xs) [ none ↦ none | some rest ↦ some (found 0 rest) ]
read_piece (Bits k) xs = spaced (read_hex k) xs
read_piece Number xs = spaced read_decimal xs
read_piece Offset xs = spaced read_offset xs

-- ---- a word byte by byte

-- the pieces with each word cut into its bytes
unfoldable pub split : List Piece → List Piece
split [] = []
split (Word w ∷ ps) = map (λ c. Word (c ∷ [])) w ++ split ps
split (Bits k ∷ ps) = Bits k ∷ split ps
split (Number ∷ ps) = Number ∷ split ps
split (Offset ∷ ps) = Offset ∷ split ps

-- a word's bytes are read as the word is
read_bytes : (w : List ℕ) (ps : List Piece) (xs : List ℕ) → read (map (λ c. Word (c ∷ [])) w ++ ps) xs ≡ elim (after_word w xs) [ none ↦ none | some rest ↦ read ps rest ]
unfolding read after_word
read_bytes [] ps xs = refl
read_bytes (w ∷ ws) ps [] = refl
read_bytes (w ∷ ws) ps (x ∷ xs) = go (eqb w x) refl (read_bytes ws ps xs)
  where
    go : (b : Bool) → eqb w x ≡ b → read (map (λ c. Word (c ∷ [])) ws ++ ps) xs ≡ elim (after_word ws xs) [ none ↦ none | some rest ↦ read ps rest ]
        → read (map (λ c. Word (c ∷ [])) (w ∷ ws) ++ ps) (x ∷ xs) ≡ elim (after_word (w ∷ ws) (x ∷ xs)) [ none ↦ none | some rest ↦ read ps rest ]
    go true q back = rw (q, read, after_word) back
    go false q back = rw (q, read, after_word)

-- a number before the same rest, read in two ways
number_split : (o : Option Found) (ps qs : List Piece) → ((xs : List ℕ) → read ps xs ≡ read qs xs)
    → ◌≡◌ {A = Option (List ℕ)}
    (elim o [ none ↦ none | some f ↦ elim (read ps f.rest) [ none ↦ none | some ns ↦ some (f.value ∷ ns) ] ])
    (elim o [ none ↦ none | some f ↦ elim (read qs f.rest) [ none ↦ none | some ns ↦ some (f.value ∷ ns) ] ])
number_split none ps qs back = refl
number_split (some f) ps qs back = ap (λ (o : Option (List ℕ)). elim o as (λ x. Option (List ℕ)) [ none ↦ none | some ns ↦ some (f.value ∷ ns) ]) (back f.rest)

word_split : (o : Option (List ℕ)) (ps qs : List Piece) → ((xs : List ℕ) → read ps xs ≡ read qs xs)
    → ◌≡◌ {A = Option (List ℕ)} (elim o [ none ↦ none | some rest ↦ read ps rest ]) (elim o [ none ↦ none | some rest ↦ read qs rest ])
word_split none ps qs back = refl
word_split (some rest) ps qs back = back rest

pub read_split : (ps : List Piece) (xs : List ℕ) → read (split ps) xs ≡ read ps xs
unfolding read split
read_split [] xs = refl
read_split (Word w ∷ ps) xs = read_bytes w (split ps) xs ∙ word_split (after_word w xs) (split ps) ps (read_split ps)
read_split (Bits k ∷ ps) xs = number_split (spaced (read_hex k) xs) (split ps) ps (read_split ps)
read_split (Number ∷ ps) xs = number_split (spaced read_decimal xs) (split ps) ps (read_split ps)
read_split (Offset ∷ ps) xs = number_split (spaced read_offset xs) (split ps) ps (read_split ps)

print_bytes : (w : List ℕ) (ps : List Piece) (ns : List ℕ) → print (map (λ c. Word (c ∷ [])) w ++ ps) ns ≡ w ++ print ps ns
unfolding print
print_bytes [] ps ns = refl
print_bytes (w ∷ ws) ps ns = ap (λ (ys : List ℕ). w ∷ ys) (print_bytes ws ps ns)

pub print_split : (ps : List Piece) (ns : List ℕ) → print (split ps) ns ≡ print ps ns
unfolding print split
print_split [] ns = refl
print_split (Word w ∷ ps) ns = print_bytes w (split ps) ns ∙ ap (λ (ys : List ℕ). w ++ ys) (print_split ps ns)
print_split (Bits k ∷ ps) [] = refl
print_split (Bits k ∷ ps) (n ∷ ns) = ap (λ (ys : List ℕ). 32 ∷ (hex k n ++ ys)) (print_split ps ns)
print_split (Number ∷ ps) [] = refl
print_split (Number ∷ ps) (n ∷ ns) = ap (λ (ys : List ℕ). 32 ∷ (decimal n ++ ys)) (print_split ps ns)
print_split (Offset ∷ ps) [] = refl
print_split (Offset ∷ ps) (n ∷ ns) = ap (λ (ys : List ℕ). 32 ∷ (offset n ++ ys)) (print_split ps ns)

-- A line of a form that a text gives is the form's own line.
pub line_of_form : (text : List ℕ) (ps : List Piece) (ns : List ℕ) → pieces text ≡ split ps → line (pieces text) ns ≡ line ps ns
unfolding line
line_of_form text ps ns e = ap (λ (qs : List Piece). print qs ns ++ 10 ∷ []) e ∙ ap (λ (ys : List ℕ). ys ++ 10 ∷ []) (print_split ps ns)

-- The text of each kind's form is its form.
pub pattern_form : (k : Kind) → pieces (pattern k) ≡ split (form k)
unfolding piece split form numbers
pattern_form Box = refl
pattern_form Sag = refl
pattern_form NoDefault = refl
pattern_form Default = refl
pattern_form Material = refl
pattern_form Face = refl
pattern_form FaceBin = refl
pattern_form Vertex = refl
pattern_form Triangle = refl
pattern_form Fail = refl
pattern_form FailBin = refl

pub pattern_read : (k : Kind) (xs : List ℕ) → read (pieces (pattern k)) xs ≡ read (form k) xs
pattern_read k xs = ap (λ (ps : List Piece). read ps xs) (pattern_form k) ∙ read_split (form k) xs
