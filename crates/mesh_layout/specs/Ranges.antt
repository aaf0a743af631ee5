-- What writing the ranges asks and leaves. Assumes nothing.
use Rattle.std.specs.Prelude.{◌≡◌, List, [], ◌∷◌, ℕ, ◌+◌, ◌*◌, ◌≤◌, ◌<◌, length, get_or, take, drop}
use Rattle.lists.specs.Lists.{written}
use Rattle.body_rows.specs.Body.{rows_of}
use Rattle.body_rows.specs.Rows.{WholeRows, row_at}
use Rattle.slice_append.specs.Appended.{Appended}
use Rattle.mesh_acceptance.specs.Judged.{accepted_rows, decisions_in}
use Rattle.mesh_layout.specs.JudgedRows.{judged_in, base_after, kept_if, ranges_with}
use Rattle.mesh_layout.specs.Mesh.{range_width}

-- what row k's range asks: its decision and where it begins are there, it ends below 2 ^ 32, and there is room
pub record RowRangeable (table W : List ℕ) (at starts k : ℕ) (out : List ℕ) (r : ℕ) : Type 0 where
  pub row : k < length (rows_of table)
  pub word : at + k < length W
  pub first : starts + k < length W
  pub small : (get_or W (at + k) 0 ≡ 0 → ⊥) → get_or W (starts + k) 0 + (row_at table k).indices < 4294967296
  pub room : range_width * r + range_width ≤ length out

-- what it leaves: the range behind the r before it, if the row's decision isn't 0
pub record RowRanged (table W : List ℕ) (at starts k : ℕ) (out new : List ℕ) (r s : ℕ) : Type 0 where
  pub numbers : Appended (range_width * r)
      (kept_if (get_or W (at + k) 0) ((row_at table k).face ∷ (row_at table k).bin ∷ get_or W (starts + k) 0 ∷ (get_or W (starts + k) 0 + (row_at table k).indices) ∷ [])) out new
  pub end : s ≡ base_after r 1 (get_or W (at + k) 0)

-- what writing all ranges asks
pub record RangesWritable (table W : List ℕ) (at starts : ℕ) (out : List ℕ) : Type 0 where
  pub rows : WholeRows table
  pub words : at + length (rows_of table) ≤ length W
  pub firsts : starts + length (rows_of table) ≤ length W
  pub small : (k : ℕ) → k < length (rows_of table) → (get_or W (at + k) 0 ≡ 0 → ⊥) → get_or W (starts + k) 0 + (row_at table k).indices < 4294967296
  pub room : range_width * length (rows_of table) ≤ length out

-- what it leaves: the ranges in row order at the front, and how many there are
pub record RangesWritten (table W : List ℕ) (at starts : ℕ) (out new : List ℕ) (r : ℕ) : Type 0 where
  pub numbers : new ≡ written (ranges_with (take (length (rows_of table)) (drop starts W)) (judged_in table W at)) out
  pub count : r ≡ length (accepted_rows (decisions_in table W at) (rows_of table))
