-- What writing the vertices asks and leaves. Assumes nothing.
use Rattle.std.specs.Prelude.{◌≡◌, List, ℕ, ◌+◌, ◌*◌, ◌≤◌, length, take, drop, Float}
use Rattle.lists.specs.Lists.{written}
use Rattle.body_rows.specs.Body.{rows_of, all_vertices}
use Rattle.body_rows.specs.Rows.{WholeRows}
use Rattle.slice_append.specs.Appended.{Appended}
use Rattle.mesh_layout.specs.JudgedRows.{judged_in, base_after, kept_if, numbers_by}

-- what copying a row's numbers asks: they are there, and there is room for them if its decision d isn't 0
pub record RowCopyable (xs : List Float) (base vertices d : ℕ) (out : List Float) (o : ℕ) : Type 0 where
  pub inside : 3 * (base + vertices) ≤ length xs
  pub room : (d ≡ 0 → ⊥) → 3 * (o + vertices) ≤ length out

-- what it leaves: behind o vertices the row's, if its decision isn't 0, and how many stand there then
pub record RowCopied (xs : List Float) (base vertices d : ℕ) (out : List Float) (o : ℕ) (new : List Float) (r : ℕ) : Type 0 where
  pub numbers : Appended (3 * o) (kept_if d (take (3 * vertices) (drop (3 * base) xs))) out new
  pub end : r ≡ base_after o vertices d

-- what writing all vertices asks: three numbers for each vertex, a decision for each row, and room
pub record VerticesWritable (table : List ℕ) (xs : List Float) (W : List ℕ) (at : ℕ) (out : List Float) : Type 0 where
  pub rows : WholeRows table
  pub all : length xs ≡ 3 * all_vertices (rows_of table)
  pub words : at + length (rows_of table) ≤ length W
  pub room : length (numbers_by (judged_in table W at) xs) ≤ length out

-- what it leaves: the accepted rows' numbers in row order at the front
pub record VerticesWritten (table : List ℕ) (xs : List Float) (W : List ℕ) (at : ℕ) (out new : List Float) : Type 0 where
  pub numbers : new ≡ written (numbers_by (judged_in table W at) xs) out
