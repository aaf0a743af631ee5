-- What the code needs to add a line, and what it adds. Assumes nothing.
use Rattle.std.specs.Prelude.{true, List, [], ◌∷◌, ◌≡◌, ℕ, ◌+◌, ◌-◌, ◌*◌, ◌%◌, ◌^◌, ◌≤◌, ◌<◌, length, set, T}
use Rattle.body_rows.specs.Body.{row_width, vertices_back, indices_back}
use Rattle.body_refusals.specs.TableChecks.{most_indices, most_rows, most_vertices}
use Rattle.sheet_lines.specs.ReadBack.{fits}
use Rattle.sheet_lines.specs.Forms.{form}
use Rattle.sheet_lines.specs.declared.Kind.{Kind}
use Rattle.sheet_reader_state.specs.declared.Reader.{Reader}
use Rattle.sheet_line_order.specs.Reading.{at, line_refusal}
use Rattle.sheet_reader_state.specs.Slices as Slices
use Rattle.sheet_reader_state.specs.Slices.{Lent, line_from, moved, state_of}
use Rattle.sheet_storing.specs.Placed.{low_three, placed}

-- nothing is refused, and the slices have room
pub record Roomy (l : Lent) : Type 0 where
  pub clean : l.reader.refusal ≡ 0
  pub held : Slices.fits l ≡ true

-- that, and a line of a kind whose numbers are not too large
pub record Fitting (l : Lent) (k : Kind) (N : List ℕ) : Type 0 where
  pub roomy : Roomy l
  pub long : 6 < length N
  pub small : T (fits (form k) (line_from k N).numbers)

-- that, and the line isn't refused
pub record Ready (l : Lent) (k : Kind) (N : List ℕ) : Type 0 where
  pub fitting : Fitting l k N
  pub taken : line_refusal (line_from k N) (state_of l) ≡ 0

-- room for a row more
pub record RowRoom (r : Reader) (T : List ℕ) : Type 0 where
  pub rows : r.rows < most_rows
  pub table : row_width * r.rows + row_width ≤ length T

-- a row was added
pub record RowAdded (r : Reader) (T : List ℕ) (shell face outcome bin place : ℕ) (s : Reader) (W : List ℕ) : Type 0 where
  pub reader : s ≡ moved r place (r.rows + 1) r.vertices r.indices r.default r.sag
  pub table : W ≡ placed T (row_width * r.rows) (shell % 2 ^ 32 ∷ face % 2 ^ 32 ∷ outcome % 2 ^ 32 ∷ 0 ∷ 0 ∷ bin % 2 ^ 32 ∷ [])

-- room for a vertex more
pub record VertexRoom (r : Reader) (T P N numbers : List ℕ) : Type 0 where
  pub some_row : 0 < r.rows
  pub rows : r.rows ≤ most_rows
  pub vertices : r.vertices < most_vertices
  pub table : row_width * r.rows ≤ length T
  pub positions : 3 * r.vertices + 3 ≤ length P
  pub normals : 3 * r.vertices + 3 ≤ length N
  pub count : at T (row_width * r.rows - vertices_back) ≤ most_vertices
  pub long : 6 < length numbers

-- a vertex was added
pub record VertexAdded (r : Reader) (T P N ns : List ℕ) (s : Reader) (T' P' N' : List ℕ) : Type 0 where
  pub reader : s ≡ moved r 4 r.rows (r.vertices + 1) r.indices r.default r.sag
  pub table : T' ≡ set T (row_width * r.rows - vertices_back) (at T (row_width * r.rows - vertices_back) + 1)
  pub positions : P' ≡ placed P (3 * r.vertices) (low_three ns 0)
  pub normals : N' ≡ placed N (3 * r.vertices) (low_three ns 3)

-- room for a triangle more
pub record TriangleRoom (r : Reader) (T I numbers : List ℕ) : Type 0 where
  pub some_row : 0 < r.rows
  pub rows : r.rows ≤ most_rows
  pub indices : r.indices + 3 ≤ length I
  pub table : row_width * r.rows ≤ length T
  pub count : at T (row_width * r.rows - indices_back) ≤ most_indices
  pub long : 6 < length numbers

-- a triangle was added
pub record TriangleAdded (r : Reader) (T I ns : List ℕ) (s : Reader) (T' I' : List ℕ) : Type 0 where
  pub reader : s ≡ moved r 5 r.rows r.vertices (r.indices + 3) r.default r.sag
  pub table : T' ≡ set T (row_width * r.rows - indices_back) (at T (row_width * r.rows - indices_back) + 3)
  pub indices : I' ≡ placed I r.indices (low_three ns 0)
