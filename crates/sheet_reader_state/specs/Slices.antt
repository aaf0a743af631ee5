-- A reader and the slices that it is lent: what has been read, whether the slices have room, and what a line leaves. Assumes nothing.
use Rattle.std.specs.Prelude.{Bool, true, false, not, ◌&&◌, cond, List, [], ◌∷◌, ◌++◌, ◌≡◌, ℕ, ◌+◌, ◌-◌, ◌*◌, ◌/◌, ◌%◌, length, take, drop, replicate, leb, ltb, eqb}
use Rattle.body_rows.specs.Body.{row_width, vertices_back, indices_back}
use Rattle.body_refusals.specs.TableChecks.{most_rows, too_large}
use Rattle.sheet_lines.specs.Counted.{count_in}
use Rattle.sheet_lines.specs.Forms.{Line, form}
use Rattle.sheet_lines.specs.declared.Kind.{Kind}
use Rattle.sheet_reader_state.specs.declared.Reader.{Reader}
use Rattle.sheet_line_order.specs.declared.Limits.{Limits}
use Rattle.sheet_line_order.specs.Reading.{Patterns, State, at, patterns, read_line, start, take_up, with_form}

-- a reader and the lent slices
pub record Lent : Type 0 where
  pub reader : Reader
  pub table : List ℕ
  pub positions : List ℕ
  pub normals : List ℕ
  pub indices : List ℕ
  pub materials : List ℕ

-- that reader with those slices
abbrev pub lent : Reader → List ℕ → List ℕ → List ℕ → List ℕ → List ℕ → Lent
lent r table ps ns is ms = record { reader = r; table = table; positions = ps; normals = ns; indices = is; materials = ms }

-- What has been read: the fronts of the slices, as far as the reader counts.
abbrev pub patterns_of : Lent → Patterns
patterns_of l =
    let r = l.reader in
    patterns
    (r.minx ∷ r.miny ∷ r.minz ∷ r.maxx ∷ r.maxy ∷ r.maxz ∷ [])
    r.sag
    r.default
    (take (r.limits.face + 1) l.materials)
    (take (row_width * r.rows) l.table)
    (take (3 * r.vertices) l.positions)
    (take (3 * r.vertices) l.normals)
    (take r.indices l.indices)

-- the state that the reader and its slices stand for
abbrev pub state_of : Lent → State
state_of l = record { limits = l.reader.limits; refusal = l.reader.refusal; place = l.reader.place; sheet = patterns_of l }

-- the reader of a state
abbrev pub reader_of : State → Reader
reader_of s =
    let x = s.sheet in
    record {
      limits = s.limits;
      refusal = s.refusal;
      place = s.place;
      rows = length x.table / row_width;
      vertices = length x.positions / 3;
      indices = length x.indices;
      default = x.default;
      sag = x.sag;
      minx = at x.box 0;
      miny = at x.box 1;
      minz = at x.box 2;
      maxx = at x.box 3;
      maxy = at x.box 4;
      maxz = at x.box 5;
    }

-- a list in front of what a slice held
abbrev pub onto : List ℕ → List ℕ → List ℕ
onto xs former = xs ++ drop (length xs) former

-- a state in the slices, whose rest stays as it was
abbrev pub over : Lent → State → Lent
over l s =
    let x = s.sheet in
    lent (reader_of s) (onto x.table l.table) (onto x.positions l.positions) (onto x.normals l.normals) (onto x.indices l.indices) (onto x.materials l.materials)

-- ---- room

-- the last row's counts are within the limits; without a row no line of a face has been read
abbrev pub last_fits : Limits → ℕ → ℕ → List ℕ → Bool
last_fits limits place rows table =
    cond (eqb rows 0) (ltb place 4) (leb (at table (row_width * rows - vertices_back)) limits.vertices && leb (at table (row_width * rows - indices_back)) limits.indices)

-- A body may have so many rows, vertices and indices.
unfoldable pub of_bodies : Limits → Bool
of_bodies limits = leb limits.rows most_rows && not (too_large limits.vertices limits.indices)

-- Slices of these lengths have room for so many rows, vertices and indices, and for the material of each face number.
unfoldable pub room_for : Limits → ℕ → ℕ → ℕ → ℕ → ℕ → Bool
room_for limits table positions normals indices materials =
    leb (row_width * limits.rows) table && (leb (3 * limits.vertices) positions && (leb (3 * limits.vertices) normals && (leb limits.indices indices && ltb limits.face materials)))

-- The reader counts no more rows, vertices and indices than the limits.
unfoldable pub counts_in : Limits → ℕ → ℕ → ℕ → Bool
counts_in limits rows vertices indices = leb rows limits.rows && (leb vertices limits.vertices && leb indices limits.indices)

-- The limits are a body's, slices of these lengths have room for them, and the reader counts no more.
unfoldable pub in_limits : Reader → ℕ → ℕ → ℕ → ℕ → ℕ → Bool
in_limits r table positions normals indices materials =
    of_bodies r.limits && (room_for r.limits table positions normals indices materials && counts_in r.limits r.rows r.vertices r.indices)

-- that, and the reader counts whole triangles and a last row within the limits
unfoldable pub fits_in : Reader → List ℕ → ℕ → ℕ → ℕ → ℕ → Bool
fits_in r table positions normals indices materials = in_limits r (length table) positions normals indices materials && (eqb (r.indices % 3) 0 && last_fits r.limits r.place r.rows table)

-- the same of a reader and its slices
abbrev pub fits : Lent → Bool
fits l = fits_in l.reader l.table (length l.positions) (length l.normals) (length l.indices) (length l.materials)

-- ---- what a line leaves

-- the reader with a refusal
abbrev pub refused : ℕ → Reader → Reader
refused n r =
    record {
      limits = r.limits;
      refusal = n;
      place = r.place;
      rows = r.rows;
      vertices = r.vertices;
      indices = r.indices;
      default = r.default;
      sag = r.sag;
      minx = r.minx;
      miny = r.miny;
      minz = r.minz;
      maxx = r.maxx;
      maxy = r.maxy;
      maxz = r.maxz;
    }

-- the same with its slices
abbrev pub refuse_in : ℕ → Lent → Lent
refuse_in n l = lent (refused n l.reader) l.table l.positions l.normals l.indices l.materials

-- a line of a kind, its numbers in front of some
abbrev pub line_from : Kind → List ℕ → Line
line_from k N = record { kind = k; numbers = take (count_in (form k)) N }

-- a line that is taken up
unfoldable pub taken_up : Lent → Kind → List ℕ → Lent
taken_up l k N = over l (take_up (state_of l) (line_from k N))

-- a line that has a form
unfoldable pub read_form : Lent → Kind → List ℕ → Lent
read_form l k N = over l (with_form (state_of l) (line_from k N))

-- a line, where there is room
unfoldable pub read_roomy : Lent → List ℕ → Lent
read_roomy l xs = over l (read_line (state_of l) xs)

-- A line, its LF left off. A refused state stays as it is; one that the slices have no room for is refused with 52.
unfoldable pub read_into : Lent → List ℕ → Lent
read_into l xs = elim (eqb l.reader.refusal 0) [
  | true ↦ elim (fits l) [ true ↦ over l (read_line (state_of l) xs) | false ↦ refuse_in 52 l ]
  | false ↦ l
]

-- the end of the text, `rest` being what stands after the last LF
unfoldable pub ended : Reader → List ℕ → Reader
ended r rest = cond (eqb r.refusal 0 && not (eqb (length rest) 0 && leb 3 r.place)) (refused 51 r) r

-- the reader before the first line, and the materials' slice: a zero for each face number, as far as there is room
pub record Begun (limits : Limits) (M : List ℕ) (r : Reader) (W : List ℕ) : Type 0 where
  pub reader : r ≡ reader_of (start limits)
  pub materials : W ≡ take (length M) (replicate (limits.face + 1) 0) ++ drop (limits.face + 1) M

-- ---- the readers that lines leave

-- a box
abbrev pub boxed : Reader → List ℕ → Reader
boxed r N =
    record {
      limits = r.limits;
      refusal = r.refusal;
      place = 1;
      rows = r.rows;
      vertices = r.vertices;
      indices = r.indices;
      default = r.default;
      sag = r.sag;
      minx = at N 0;
      miny = at N 1;
      minz = at N 2;
      maxx = at N 3;
      maxy = at N 4;
      maxz = at N 5;
    }

-- other values and counts
abbrev pub moved : Reader → ℕ → ℕ → ℕ → ℕ → ℕ → ℕ → Reader
moved r place rows vertices indices default sag =
    record {
      limits = r.limits;
      refusal = r.refusal;
      place = place;
      rows = rows;
      vertices = vertices;
      indices = indices;
      default = default;
      sag = sag;
      minx = r.minx;
      miny = r.miny;
      minz = r.minz;
      maxx = r.maxx;
      maxy = r.maxy;
      maxz = r.maxz;
    }

-- a sag
abbrev pub sagged : Reader → ℕ → Reader
sagged r sag = moved r 2 r.rows r.vertices r.indices r.default sag

-- a default
abbrev pub defaulted : Reader → ℕ → Reader
defaulted r default = moved r 3 r.rows r.vertices r.indices default r.sag
