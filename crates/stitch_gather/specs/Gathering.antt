-- What gathering the loose vertices asks and leaves: of a triangle, of a row, of all rows. Assumes nothing.
use Rattle.std.specs.Prelude.{◌≡◌, List, [], ℕ, ◌+◌, ◌-◌, ◌*◌, ◌%◌, ◌<◌, ◌≤◌, length, get_or, take, drop}
use Rattle.join_definition.specs.Join.{joined}
use Rattle.body_rows.specs.Body.{triangles_of, rows_of, all_vertices, all_indices}
use Rattle.body_rows.specs.Rows.{WholeRows, row_at, indices_before}
use Rattle.stitch_loose_points.specs.Listed.{with_triangle, row_vertices, body_vertices, CornerAt, Listed}
use Rattle.stitch_gather.specs.Standing.{Standing, Pointed}

-- what gathering the corners of the triangle at index k asks
pub record TriangleGatherable (is : List ℕ) (v at count base k flags : ℕ) (W : List ℕ) : Type 0 where
  pub pointed : Pointed v at W
  pub room : at + count + 3 ≤ length W
  pub flags_room : flags + k + 3 ≤ length W
  pub in_a : CornerAt is base v k
  pub in_b : CornerAt is base v (k + 1)
  pub in_c : CornerAt is base v (k + 2)

-- what it leaves: the corners stand for their points if one of the flags is set
pub record TriangleGathered (is : List ℕ) (v at count base k flags : ℕ) (W E : List ℕ) (r : ℕ) : Type 0 where
  pub stands : (R : List ℕ) → Standing v at count W R → Standing v at r E (with_triangle (take v W) base is W flags k R)
  pub few : r ≤ count + 3
  pub front : take (2 * v) E ≡ take (2 * v) W
  pub rest : drop (at + count + 3) E ≡ drop (at + count + 3) W

-- what gathering one row's vertices asks: whole triangles from index `from` up to `to`, over the row's vertices; flags of the uses at `flags`,
-- behind the list and the room that it may need
pub record RowGatherable (is : List ℕ) (v at count base vertices from to flags : ℕ) (W : List ℕ) : Type 0 where
  pub pointed : Pointed v at W
  pub ordered : from ≤ to
  pub whole : (to - from) % 3 ≡ 0
  pub inside : to ≤ length is
  pub below : (k : ℕ) → from ≤ k → k < to → get_or is k 0 < vertices
  pub vertices_low : base + vertices ≤ v
  pub apart : at + count + (to - from) ≤ flags
  pub room : flags + to ≤ length W

-- what it leaves
pub record RowGathered (is : List ℕ) (v at count base from to flags : ℕ) (W E : List ℕ) (r : ℕ) : Type 0 where
  pub stands : (R : List ℕ) → Standing v at count W R
      → Standing v at r E (row_vertices (take v W) base (take (to - from) (drop (flags + from) W)) (triangles_of (take (to - from) (drop from is))) R)
  pub few : r ≤ count + (to - from)
  pub front : take (2 * v) E ≡ take (2 * v) W
  pub rest : drop (at + count + (to - from)) E ≡ drop (at + count + (to - from)) W

-- What gathering the vertices of all rows asks: names and first vertices in front, and behind the words of their join room at `at` for one vertex an index
-- and its name, in front of the flags.
pub record Gatherable (table is : List ℕ) (v at flags : ℕ) (W : List ℕ) : Type 0 where
  pub rows : WholeRows table
  pub vertices : all_vertices (rows_of table) ≡ v
  pub all : length is ≡ all_indices (rows_of table)
  pub few : all_indices (rows_of table) ≤ 786432
  pub few_vertices : v ≤ 262144
  pub threes : (k : ℕ) → k < length (rows_of table) → (row_at table k).indices % 3 ≡ 0
  pub inside : (k j : ℕ) → k < length (rows_of table) → j < (row_at table k).indices → get_or is (indices_before (rows_of table) k + j) 0 < (row_at table k).vertices
  pub points : take v (drop v W) ≡ joined (take v W)
  pub behind : 4 * v ≤ at
  pub apart : at + 2 * length is ≤ flags
  pub room : flags + length is ≤ length W

-- what the walk over all rows leaves, if no vertex stood for a point before
pub record RowsGathered (table is : List ℕ) (v at flags : ℕ) (W E : List ℕ) (r : ℕ) : Type 0 where
  pub stands : Standing v at 0 W [] → Standing v at r E (body_vertices (take v W) 0 (take (length is) (drop flags W)) (rows_of table) is [])
  pub few : r ≤ length is
  pub front : take (2 * v) E ≡ take (2 * v) W
  pub rest : drop (at + length is) E ≡ drop (at + length is) W

-- what gathering leaves: the list, at most one vertex an index; names, first vertices and all from the flags on are as they were
pub record Gathered (table is : List ℕ) (v at flags : ℕ) (W E : List ℕ) (r : ℕ) : Type 0 where
  pub list : take r (drop at E) ≡ body_vertices (take v W) 0 (take (length is) (drop flags W)) (rows_of table) is []
  pub listed : Listed v at r E
  pub few : r ≤ length is
  pub front : take (2 * v) E ≡ take (2 * v) W
  pub rest : drop flags E ≡ drop flags W
