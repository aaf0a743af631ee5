-- The volume of a group in the work area: where each row's vertices and indices start, and what measuring asks. Assumes nothing.
use Rattle.std.specs.Prelude.{◌≡◌, List, ℕ, ◌+◌, ◌*◌, ◌≤◌, ◌<◌, length, get_or, eqb, Float, cond}
use Rattle.body_rows.specs.Body.{rows_of, all_vertices, all_indices}
use Rattle.body_rows.specs.Rows.{WholeRows, row_at, vertices_before, indices_before}
use Rattle.turn_walk.specs.Walk.{unvisited}
use Rattle.turn_walk.specs.Area.{area_end}
use Rattle.turn_walk.specs.Group.{Queue}

-- where the vertices that rows start at stand, behind the walk's regions
abbrev pub vertex_bases_at : ℕ → ℕ → ℕ
vertex_bases_at n m = 5 * n + 3 * m

-- where the indices that rows start at stand
abbrev pub index_bases_at : ℕ → ℕ → ℕ
index_bases_at n m = 5 * n + 4 * m

-- where these regions end
abbrev pub bases_end : ℕ → ℕ → ℕ
bases_end n m = 5 * n + 5 * m

-- what measuring asks of a body: m rows that fill the slices, indices that are of vertices, and in the work area W where each row starts
pub record Measurable (table : List ℕ) (ps : List Float) (is W : List ℕ) (n m : ℕ) : Type 0 where
  pub rows : WholeRows table
  pub count : length (rows_of table) ≡ m
  pub all_positions : length ps ≡ 3 * all_vertices (rows_of table)
  pub all_indices_lem : length is ≡ all_indices (rows_of table)
  pub indices_few : all_indices (rows_of table) ≤ 786432
  pub inside : (k j : ℕ) → k < length (rows_of table) → j < (row_at table k).indices → get_or is (indices_before (rows_of table) k + j) 0 < (row_at table k).vertices
  pub room : bases_end n m ≤ length W
  pub vertex_bases : (k : ℕ) → k < m → get_or W (vertex_bases_at n m + k) 0 ≡ vertices_before (rows_of table) k
  pub index_bases : (k : ℕ) → k < m → get_or W (index_bases_at n m + k) 0 ≡ indices_before (rows_of table) k

-- the same for one row
pub record RowMeasurable (table : List ℕ) (ps : List Float) (is W : List ℕ) (n m x : ℕ) : Type 0 where
  pub given : Measurable table ps is W n m
  pub row : x < m

-- the same for the first t rows of the queue
pub record GroupMeasurable (table : List ℕ) (ps : List Float) (is W : List ℕ) (n m t : ℕ) : Type 0 where
  pub given : Measurable table ps is W n m
  pub queue : Queue n m t W

-- the indices of row x if its colour is c, else 0
abbrev pub weight_of : List ℕ → List ℕ → ℕ → ℕ → ℕ
weight_of table colours c x = cond (eqb (get_or colours x unvisited) c) (row_at table x).indices 0

-- what weighing a row asks
pub record RowWeighable (table W : List ℕ) (n m x : ℕ) : Type 0 where
  pub count : length (rows_of table) ≡ m
  pub room : area_end n m ≤ length W
  pub row : x < m

-- what weighing the first t rows of the queue asks
pub record GroupWeighable (table W : List ℕ) (n m t : ℕ) : Type 0 where
  pub rows : WholeRows table
  pub count : length (rows_of table) ≡ m
  pub room : area_end n m ≤ length W
  pub queue : Queue n m t W
