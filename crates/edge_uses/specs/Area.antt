-- The uses of a body in a work area: where their words stand, and what laying them out there asks. Assumes nothing.
--
-- For v vertices, m rows and n uses: the table that joins the vertices at 0, of 4 v words, the rows' shells behind it, in 4 m words,
-- then the names of the uses, their first uses and two words more of each, of n words each.
use Rattle.std.specs.Prelude.{◌≡◌, List, map, ℕ, ◌+◌, ◌*◌, ◌%◌, ◌<◌, ◌≤◌, length, get_or, take, drop, Float}
use Rattle.body_rows.specs.Body.{rows_of, all_vertices, all_indices}
use Rattle.body_rows.specs.Rows.{WholeRows, row_at, indices_before}
use Rattle.join_definition.specs.Join.{joined}
use Rattle.edge_uses.specs.Named.{use_name, use_run, row_numbers}
use Rattle.edge_uses.specs.FirstUsers.{uses_in}

-- where the uses' names stand
abbrev pub names_at : ℕ → ℕ → ℕ
names_at v m = 4 * v + 4 * m

-- where the words of n uses end
abbrev pub uses_end : ℕ → ℕ → ℕ → ℕ
uses_end v m n = 4 * v + 4 * m + 4 * n

-- what laying the uses out asks: v vertices, m rows of whole triangles and n indices that fill the slices and are of vertices, and room
pub record Layable (table : List ℕ) (ps : List Float) (is W : List ℕ) (v m : ℕ) : Type 0 where
  pub rows : WholeRows table
  pub count : length (rows_of table) ≡ m
  pub vertices : all_vertices (rows_of table) ≡ v
  pub few_vertices : v ≤ 262144
  pub all_positions : length ps ≡ 3 * v
  pub all_indices_lem : length is ≡ all_indices (rows_of table)
  pub few_indices : all_indices (rows_of table) ≤ 786432
  pub threes : (k : ℕ) → k < length (rows_of table) → (row_at table k).indices % 3 ≡ 0
  pub inside : (k j : ℕ) → k < length (rows_of table) → j < (row_at table k).indices → get_or is (indices_before (rows_of table) k + j) 0 < (row_at table k).vertices
  pub room : uses_end v m (length is) ≤ length W

-- what working on a body in its area asks: that its uses can be laid out, and the words that 31 counts
pub record AreaReady (table : List ℕ) (ps : List Float) (is W : List ℕ) (v m : ℕ) : Type 0 where
  pub body : Layable table ps is W v m
  pub enough : 16 * length is + 16 * m + 4 * v ≤ length W

-- what listing the uses' runs leaves behind three words of each use, names first: Y became Z
pub record RunsListed (table is W : List ℕ) (points shells at : ℕ) (Y Z : List ℕ) : Type 0 where
  pub runs : take (length is) (drop (at + 3 * length is) Z) ≡ map use_run (uses_in table is W points shells)
  pub front : take (at + 3 * length is) Z ≡ take (at + 3 * length is) Y
  pub rest : drop (at + 4 * length is) Z ≡ drop (at + 4 * length is) Y

-- what listing the uses leaves: behind their names their first uses, rows and runs
pub record UsesListed (table is W : List ℕ) (points shells at : ℕ) (E : List ℕ) : Type 0 where
  pub firsts : take (length is) (drop (at + length is) E) ≡ joined (map use_name (uses_in table is W points shells))
  pub rows : take (length is) (drop (at + 2 * length is) E) ≡ row_numbers 0 (rows_of table)
  pub runs : take (length is) (drop (at + 3 * length is) E) ≡ map use_run (uses_in table is W points shells)
  pub rest : drop (at + 4 * length is) E ≡ drop (at + 4 * length is) W
