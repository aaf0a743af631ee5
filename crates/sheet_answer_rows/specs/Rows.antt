-- What is printed of a slice, a line for every row: vertices, three numbers a line, ranges, failures. Assumes nothing.
use Rattle.std.specs.Prelude.{true, false, List, [], ◌∷◌, ◌++◌, ℕ, ◌+◌, get_or, eqb, Float}
use Rattle.std.specs.Float.{nan}
use Rattle.float_steps.specs.Floats.{bits32}
use Rattle.sheet_digits.specs.Bytes.{bytes}
use Rattle.sheet_lines.specs.Forms.{Piece, Word, Bits, Number, line, numbers, vertex_form}

-- range: face, bin, first index, one past the last
abbrev pub range_form : List Piece
range_form = Word (bytes "(range") ∷ numbers 4

-- a failure without triangles: its face and bin
abbrev pub empty_form : List Piece
empty_form = Word (bytes "(failed") ∷ Number ∷ Number ∷ Word (bytes " (empty))") ∷ []

-- an upstream failure: its face, bin and number
abbrev pub upstream_form : List Piece
upstream_form = Word (bytes "(failed") ∷ Number ∷ Number ∷ Word (bytes " (upstream") ∷ Number ∷ Word (bytes "))") ∷ []

-- an escape: its face and bin, the bits of reach and span
abbrev pub escape_form : List Piece
escape_form = Word (bytes "(failed") ∷ Number ∷ Number ∷ Word (bytes " (escape") ∷ Bits 16 ∷ Bits 16 ∷ Word (bytes "))") ∷ []

-- three numbers from a place on
abbrev pub three_at : List ℕ → ℕ → List ℕ
three_at ns i = get_or ns i 0 ∷ get_or ns (i + 1) 0 ∷ get_or ns (i + 2) 0 ∷ []

-- four numbers from a place on
abbrev pub four_at : List ℕ → ℕ → List ℕ
four_at ns i = get_or ns i 0 ∷ get_or ns (i + 1) 0 ∷ get_or ns (i + 2) 0 ∷ get_or ns (i + 3) 0 ∷ []

-- the bits of a position and a normal, three coordinates each from a place on
abbrev pub corner_at : List Float → List Float → ℕ → List ℕ
corner_at ps ns i =
    bits32 (get_or ps i nan) ∷ bits32 (get_or ps (i + 1) nan) ∷ bits32 (get_or ps (i + 2) nan) ∷ bits32 (get_or ns i nan) ∷ bits32 (get_or ns (i + 1) nan) ∷ bits32 (get_or ns (i + 2) nan) ∷ []

-- a line for every three numbers
unfoldable pub threes : List Piece → List ℕ → List ℕ
threes form [] = []
threes form (a ∷ []) = []
threes form (a ∷ b ∷ []) = []
threes form (a ∷ b ∷ c ∷ ns) = line form (a ∷ b ∷ c ∷ []) ++ threes form ns

-- a line for every vertex: three bit patterns of its position, three of its normal
unfoldable pub vertex_lines : List ℕ → List ℕ → List ℕ
vertex_lines [] ns = []
vertex_lines (x ∷ []) ns = []
vertex_lines (x ∷ y ∷ []) ns = []
vertex_lines (x ∷ y ∷ z ∷ ps) [] = []
vertex_lines (x ∷ y ∷ z ∷ ps) (a ∷ []) = []
vertex_lines (x ∷ y ∷ z ∷ ps) (a ∷ b ∷ []) = []
vertex_lines (x ∷ y ∷ z ∷ ps) (a ∷ b ∷ c ∷ ns) = line vertex_form (x ∷ y ∷ z ∷ a ∷ b ∷ c ∷ []) ++ vertex_lines ps ns

-- a line for every range
unfoldable pub range_lines : List ℕ → List ℕ
range_lines [] = []
range_lines (f ∷ []) = []
range_lines (f ∷ b ∷ []) = []
range_lines (f ∷ b ∷ m ∷ []) = []
range_lines (f ∷ b ∷ m ∷ n ∷ rest) = line range_form (f ∷ b ∷ m ∷ n ∷ []) ++ range_lines rest

-- a failure: its face and bin; its case, 0 for empty, 256 for an escape, else upstream; the bits of reach and span
unfoldable pub failure_line : ℕ → ℕ → ℕ → ℕ → ℕ → List ℕ
failure_line face bin n reach span = elim (eqb n 0) [
  | true ↦ line empty_form (face ∷ bin ∷ [])
  | false ↦ elim (eqb n 256) [
    | true ↦ line escape_form (face ∷ bin ∷ reach ∷ span ∷ [])
    | false ↦ line upstream_form (face ∷ bin ∷ n ∷ [])
  ]
]

-- a line for every failure
unfoldable pub failure_lines : List ℕ → List ℕ
failure_lines [] = []
failure_lines (f ∷ []) = []
failure_lines (f ∷ b ∷ []) = []
failure_lines (f ∷ b ∷ n ∷ []) = []
failure_lines (f ∷ b ∷ n ∷ r ∷ []) = []
failure_lines (f ∷ b ∷ n ∷ r ∷ s ∷ rest) = failure_line f b n r s ++ failure_lines rest

-- the line of the failure that stands from a place on
abbrev pub failure_at : List ℕ → ℕ → List ℕ
failure_at ns i = failure_line (get_or ns i 0) (get_or ns (i + 1) 0) (get_or ns (i + 2) 0) (get_or ns (i + 3) 0) (get_or ns (i + 4) 0)
