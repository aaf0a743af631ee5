-- Rows joined by face number in the work area. Assumes nothing.
use Rattle.std.specs.Prelude.{◌≡◌, List, map, ℕ, ◌+◌, ◌*◌, ◌≤◌, ◌<◌, length, get_or, take, drop}
use Rattle.body_rows.specs.Body.{Row, rows_of}
use Rattle.body_rows.specs.Rows.{WholeRows}
use Rattle.join_definition.specs.Join.{joined}

-- the face number of each row
abbrev pub faces_of : List Row → List ℕ
faces_of rows = map (λ r. r.face) rows

-- face numbers of 32 bits
pub record Narrow (faces : List ℕ) : Type 0 where
  pub small : (k : ℕ) → k < length faces → get_or faces k 0 < 4294967296

-- what joining the rows by face number asks: room for their table from `at` on
pub record FacesReady (table W : List ℕ) (at : ℕ) : Type 0 where
  pub rows : WholeRows table
  pub room : at + 4 * length (rows_of table) ≤ length W

-- what listing the face numbers leaves: nothing else was written
pub record FacesListed (table : List ℕ) (at : ℕ) (W E : List ℕ) : Type 0 where
  pub faces : take (length (rows_of table)) (drop at E) ≡ faces_of (rows_of table)
  pub narrow : Narrow (faces_of (rows_of table))
  pub front : take at E ≡ take at W
  pub rest : drop (at + length (rows_of table)) E ≡ drop (at + length (rows_of table)) W

-- what joining leaves: behind the face numbers the first row of each, and all outside the table as it was
pub record FacesJoined (table : List ℕ) (at : ℕ) (W E : List ℕ) : Type 0 where
  pub faces : take (length (rows_of table)) (drop at E) ≡ faces_of (rows_of table)
  pub heads : take (length (rows_of table)) (drop (at + length (rows_of table)) E) ≡ joined (faces_of (rows_of table))
  pub narrow : Narrow (faces_of (rows_of table))
  pub front : take at E ≡ take at W
  pub rest : drop (at + 4 * length (rows_of table)) E ≡ drop (at + 4 * length (rows_of table)) W
