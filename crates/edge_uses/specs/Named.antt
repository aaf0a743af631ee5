-- A use named by one number: the name of its edge, the same both ways round. Assumes nothing.
use Rattle.std.specs.Prelude.{◌≡◌, cond, List, [], ◌∷◌, ◌++◌, ℕ, suc, ◌+◌, ◌-◌, ◌*◌, ◌%◌, ◌≤◌, ◌<◌, min, max, length, get_or, take, drop, replicate, eqb, ltb}
use Rattle.body_rows.specs.Body.{Row, triangles_of, rows_of, all_vertices, all_indices}
use Rattle.body_rows.specs.Rows.{WholeRows, row_at, indices_before}
use Rattle.edge_uses.specs.Edges.{Use, triangle_uses}

-- a shell and two points as one number, the lower point first
unfoldable pub edge_name : ℕ → ℕ → ℕ → ℕ
edge_name shell a b = (shell * 262144 + min a b) * 262144 + max a b

-- which way a use runs: 0 from the lower point to the higher, 1 back, 2 where its ends are equal
unfoldable pub run_of : ℕ → ℕ → ℕ
run_of a b = cond (eqb a b) 2 (cond (ltb a b) 0 1)

-- the name of a use's edge, the same both ways round
abbrev pub use_name : Use → ℕ
use_name u = edge_name u.shell u.start u.end

-- which way a use runs
abbrev pub use_run : Use → ℕ
use_run u = run_of u.start u.end

-- the row of a use
abbrev pub use_row : Use → ℕ
use_row u = u.row

-- the uses of rows in their order: of each row its shell's number in `shells`; `points` begins with the row's vertices, `is` with its indices
unfoldable pub row_uses : List ℕ → ℕ → List ℕ → List Row → List ℕ → List Use
row_uses shells row points [] is = []
row_uses [] row points (r ∷ rs) is = []
row_uses (s ∷ ss) row points (r ∷ rs) is =
    triangle_uses s row points (triangles_of (take r.indices is)) ++ row_uses ss (suc row) (drop r.vertices points) rs (drop r.indices is)

-- the row of each use: a row's number for each of its indices
unfoldable pub row_numbers : ℕ → List Row → List ℕ
row_numbers row [] = []
row_numbers row (r ∷ rs) = replicate r.indices row ++ row_numbers (suc row) rs

-- a shell and two points that make a name
pub record Ends (shell a b : ℕ) : Type 0 where
  pub shell_low : shell < 4096
  pub start_low : a < 262144
  pub end_low : b < 262144

-- what `point_at` asks: index k is of a vertex whose point stands in the work area W behind `points`
pub record PointReady (is W : List ℕ) (points k : ℕ) : Type 0 where
  pub inside : k < length is
  pub room : points + get_or is k 0 < length W

-- three points that make names
pub record Low (a b c : ℕ) : Type 0 where
  pub a_low : a < 262144
  pub b_low : b < 262144
  pub c_low : c < 262144

-- what a pass over one row asks: the indices from `from` up to `to` are whole triangles over the row's vertices, the points of these stand
-- from `points` on in the work area W, in front of the words at `at`, and a word for each index has room
pub record RowReady (is W : List ℕ) (points vertices from to at : ℕ) : Type 0 where
  pub ordered : from ≤ to
  pub whole : (to - from) % 3 ≡ 0
  pub inside : to ≤ length is
  pub below : (k : ℕ) → from ≤ k → k < to → get_or is k 0 < vertices
  pub apart : points + vertices ≤ at
  pub room : at + to ≤ length W
  pub low : (v : ℕ) → v < vertices → get_or W (points + v) 0 < 262144

-- the same with a shell's number for the names
pub record NameReady (is W : List ℕ) (points vertices from to at shell : ℕ) : Type 0 where
  pub row : RowReady is W points vertices from to at
  pub shell_low : shell < 4096

-- what a pass over a body asks: its rows' indices are whole triangles over each row's vertices; in the work area W the points of all
-- vertices stand from `points` on, in front of the words at `at`, and a word for each index has room
pub record BodyReady (table is W : List ℕ) (points at : ℕ) : Type 0 where
  pub rows : WholeRows table
  pub whole : (k : ℕ) → k < length (rows_of table) → (row_at table k).indices % 3 ≡ 0
  pub below : (k : ℕ) → k < length (rows_of table) → (j : ℕ) → j < (row_at table k).indices → get_or is (indices_before (rows_of table) k + j) 0 < (row_at table k).vertices
  pub inside : all_indices (rows_of table) ≤ length is
  pub apart : points + all_vertices (rows_of table) ≤ at
  pub room : at + all_indices (rows_of table) ≤ length W
  pub low : (v : ℕ) → v < all_vertices (rows_of table) → get_or W (points + v) 0 < 262144

-- the same with a number of each row's shell from `shells` on, in front of the words too
pub record NamesReady (table is W : List ℕ) (points shells at : ℕ) : Type 0 where
  pub body : BodyReady table is W points at
  pub shells_apart : shells + length (rows_of table) ≤ at
  pub shells_low : (k : ℕ) → k < length (rows_of table) → get_or W (shells + k) 0 < 4096

-- what `list_rows` asks: a word for each index has room
pub record RowsRoom (table W : List ℕ) (at : ℕ) : Type 0 where
  pub rows : WholeRows table
  pub whole : (k : ℕ) → k < length (rows_of table) → (row_at table k).indices % 3 ≡ 0
  pub room : at + all_indices (rows_of table) ≤ length W
