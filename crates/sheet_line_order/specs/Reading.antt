-- Reading the sheet: its lines, their order, what each means, and the refusals 51 and 52. Assumes nothing.
use Rattle.std.specs.Prelude.{Bool, true, false, not, ◌&&◌, ◌||◌, cond, List, [], ◌∷◌, ◌++◌, ℕ, ◌+◌, ◌-◌, ◌*◌, length, get_or, take, drop, set, replicate, leb, ltb, eqb}
use Rattle.std.proofs.Math.Option.{none, some}
use Rattle.body_rows.specs.Body.{row_width, vertices_back, indices_back, check, first_failing}
use Rattle.sheet_lines.specs.Forms.{Line, line_of}
use Rattle.sheet_lines.specs.declared.Kind.{Kind}
use Rattle.sheet_lines.specs.declared.Kind.TheVariants.{Box, Sag, NoDefault, Default, Material, Face, FaceBin, Vertex, Triangle, Fail, FailBin}
use Rattle.sheet_line_order.specs.declared.Limits.{Limits}

-- the sheet as its lines give it: floats are bits, the box's minimum and maximum three each; of default and materials 0 is none, n + 1 is material n
pub record Patterns : Type 0 where
  pub box : List ℕ
  pub sag : ℕ
  pub default : ℕ
  pub materials : List ℕ
  pub table : List ℕ
  pub positions : List ℕ
  pub normals : List ℕ
  pub indices : List ℕ

-- ---- the order of lines

-- A place in the sheet: 0, 1 and 2 want box, sag and default; 3 is past the default and its materials; 4 among a face's vertices, 5 among its
-- triangles, 6 past a fail line. A kind may stand at the places from `first` to `last`, and leads to the place `then`.
pub record Order : Type 0 where
  pub first : ℕ
  pub last : ℕ
  pub then : ℕ

-- the places from a to b, and then c
abbrev pub order : ℕ → ℕ → ℕ → Order
order a b c = record { first = a; last = b; then = c }

-- Lines come in this order: box, sag, default, any materials, then each face with its vertices, then its triangles, or fail.
abbrev pub order_of : Kind → Order
order_of Box = order 0 0 1
order_of Sag = order 1 1 2
order_of NoDefault = order 2 2 3
order_of Default = order 2 2 3
order_of Material = order 3 3 3
order_of Face = order 3 6 4
order_of FaceBin = order 3 6 4
order_of Vertex = order 4 4 4
order_of Triangle = order 4 5 5
order_of Fail = order 3 6 6
order_of FailBin = order 3 6 6

-- whether a kind may stand at a place
abbrev pub in_order : ℕ → Kind → Bool
in_order place k = leb (order_of k).first place && leb place (order_of k).last

-- ---- what a line means

-- number i of a line; its form says how many there are
abbrev pub at : List ℕ → ℕ → ℕ
at ns i = get_or ns i 0

-- the table with n more in the last row's count that stands `back` from the end
unfoldable pub raised : ℕ → ℕ → List ℕ → List ℕ
raised back n table = let i = length table - back in set table i (at table i + n)

-- a sheet from its parts
abbrev pub patterns : List ℕ → ℕ → ℕ → List ℕ → List ℕ → List ℕ → List ℕ → List ℕ → Patterns
patterns box sag default materials table ps ns is =
    record { box = box; sag = sag; default = default; materials = materials; table = table; positions = ps; normals = ns; indices = is }

-- a row without a vertex behind the table: its shell, face, outcome and bin
abbrev pub with_row : ℕ → ℕ → ℕ → ℕ → Patterns → Patterns
with_row shell face outcome bin x =
    patterns x.box x.sag x.default x.materials (x.table ++ shell ∷ face ∷ outcome ∷ 0 ∷ 0 ∷ bin ∷ []) x.positions x.normals x.indices

-- What each line means; a later material line replaces, and without its number the bin is 0.
unfoldable pub with_line : Kind → List ℕ → Patterns → Patterns
with_line Box ns x = patterns ns x.sag x.default x.materials x.table x.positions x.normals x.indices
with_line Sag ns x = patterns x.box (at ns 0) x.default x.materials x.table x.positions x.normals x.indices
with_line NoDefault ns x = patterns x.box x.sag 0 x.materials x.table x.positions x.normals x.indices
with_line Default ns x = patterns x.box x.sag (at ns 0 + 1) x.materials x.table x.positions x.normals x.indices
with_line Material ns x =
    patterns x.box x.sag x.default (set x.materials (at ns 0) (at ns 1 + 1)) x.table x.positions x.normals x.indices
with_line Face ns x = with_row (at ns 0) (at ns 1) 0 0 x
with_line FaceBin ns x = with_row (at ns 0) (at ns 1) 0 (at ns 2) x
with_line Vertex ns x =
    patterns x.box x.sag x.default x.materials (raised vertices_back 1 x.table) (x.positions ++ take 3 ns) (x.normals ++ drop 3 ns) x.indices
with_line Triangle ns x =
    patterns x.box x.sag x.default x.materials (raised indices_back 3 x.table) x.positions x.normals (x.indices ++ ns)
with_line Fail ns x = with_row (at ns 0) (at ns 1) (at ns 2) 0 x
with_line FailBin ns x = with_row (at ns 0) (at ns 1) (at ns 2) (at ns 3) x

-- a row more, of that face number, passes a limit
abbrev pub row_passes : Limits → ℕ → Patterns → Bool
row_passes limits face x = ltb limits.face face || leb (row_width * limits.rows) (length x.table)

-- 52: it passes a program limit: a face number above its limit, or a row, a vertex or three indices more than the limit
unfoldable pub passes_limit : Limits → Kind → List ℕ → Patterns → Bool
passes_limit limits Box ns x = false
passes_limit limits Sag ns x = false
passes_limit limits NoDefault ns x = false
passes_limit limits Default ns x = false
passes_limit limits Material ns x = ltb limits.face (at ns 0)
passes_limit limits Face ns x = row_passes limits (at ns 1) x
passes_limit limits FaceBin ns x = row_passes limits (at ns 1) x
passes_limit limits Vertex ns x = leb (3 * limits.vertices) (length x.positions)
passes_limit limits Triangle ns x = ltb limits.indices (length x.indices + 3)
passes_limit limits Fail ns x = row_passes limits (at ns 1) x
passes_limit limits FailBin ns x = row_passes limits (at ns 1) x

-- a fail line with number 0
unfoldable pub fails_with_zero : Kind → List ℕ → Bool
fails_with_zero Box ns = false
fails_with_zero Sag ns = false
fails_with_zero NoDefault ns = false
fails_with_zero Default ns = false
fails_with_zero Material ns = false
fails_with_zero Face ns = false
fails_with_zero FaceBin ns = false
fails_with_zero Vertex ns = false
fails_with_zero Triangle ns = false
fails_with_zero Fail ns = eqb (at ns 2) 0
fails_with_zero FailBin ns = eqb (at ns 2) 0

-- ---- line by line

-- what the lines so far gave within a program's limits: the refusal's number or 0, the place, and the sheet
pub record State : Type 0 where
  pub limits : Limits
  pub refusal : ℕ
  pub place : ℕ
  pub sheet : Patterns

-- before the first line; no face, numbered from 0 to the limit, has a material of its own
unfoldable pub start : Limits → State
start limits = record { limits = limits; refusal = 0; place = 0; sheet = patterns (replicate 6 0) 0 0 (replicate (limits.face + 1) 0) [] [] [] [] }

-- the refusal's number kept, and nothing else changed
unfoldable pub refuse : ℕ → State → State
refuse n s = record { limits = s.limits; refusal = n; place = s.place; sheet = s.sheet }

-- 51: a line is out of order, or fails with number 0. 51 before 52 on one line.
unfoldable pub line_refusal : Line → State → ℕ
line_refusal l s =
    first_failing (
    check 51 (not (in_order s.place l.kind) || fails_with_zero l.kind l.numbers)
    ∷ check 52 (passes_limit s.limits l.kind l.numbers s.sheet)
    ∷ [])

-- a line that is taken up
unfoldable pub take_up : State → Line → State
take_up s l = record { limits = s.limits; refusal = 0; place = (order_of l.kind).then; sheet = with_line l.kind l.numbers s.sheet }

-- a line that is some form: refused, or taken up
unfoldable pub with_form : State → Line → State
with_form s l = let n = line_refusal l s in elim (eqb n 0) [ true ↦ take_up s l | false ↦ refuse n s ]

-- A line, its LF left off: 51 if it is no such form. The earlier line decides.
unfoldable pub read_line : State → List ℕ → State
read_line s xs = elim (eqb s.refusal 0) [
  | true ↦ elim (line_of xs) [ none ↦ refuse 51 s | some l ↦ with_form s l ]
  | false ↦ s
]

-- The end of the text, `rest` being what stands after the last LF: 51 for a line without its LF, and for a missing line.
unfoldable pub finished : State → List ℕ → State
finished s rest = cond (eqb s.refusal 0 && not (eqb (length rest) 0 && leb 3 s.place)) (refuse 51 s) s

-- ---- the text

-- a byte that isn't LF, in front of what was cut
unfoldable pub into_first : ℕ → List (List ℕ) → List (List ℕ)
into_first c [] = (c ∷ []) ∷ []
into_first c (l ∷ ls) = (c ∷ l) ∷ ls

-- the text cut at each LF: every piece but the last is a line, the last is what stands after the last LF
unfoldable pub cut : List ℕ → List (List ℕ)
cut [] = [] ∷ []
cut (c ∷ cs) = elim (eqb c 10) [ true ↦ [] ∷ cut cs | false ↦ into_first c (cut cs) ]

-- line by line, then the end
unfoldable pub read_from : State → List (List ℕ) → State
read_from s [] = s
read_from s (rest ∷ []) = finished s rest
read_from s (l ∷ m ∷ ls) = read_from (read_line s l) (m ∷ ls)

-- what a text says to a program of such limits: the refusal's number or 0, and the sheet
unfoldable pub sheet_of : Limits → List ℕ → State
sheet_of limits text = read_from (start limits) (cut text)
