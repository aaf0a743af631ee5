-- The stitched body written to the second slices: a triangle, a row, all rows. Assumes nothing.
use Rattle.std.specs.Prelude.{◌≡◌, None, List, ◌++◌, ℕ, ◌+◌, ◌-◌, ◌*◌, ◌%◌, ◌<◌, ◌≤◌, length, get_or, take, drop, Float}
use Rattle.lists.specs.Lists.{sum_of, written}
use Rattle.body_rows.specs.Body.{row_width, rows_of, table_of}
use Rattle.stitch_splits.specs.Entries.{Entry}
use Rattle.stitch_splits.specs.Found.{triangle_kept}
use Rattle.stitch_rings.specs.Rings.{new_positions, new_normals, ring_after, fan_go}
use Rattle.slice_append.specs.Appended.{Appended}
use Rattle.stitch_count.specs.Views.{kept_in, row_positions, row_normals, row_indices, viewed_rows, viewed_positions, viewed_normals, viewed_indices}
use Rattle.stitch_count.specs.Counting.{sides_in, Stands, TriangleReady, views_in, BodyReady, views_of}

-- the entries that the triangle at index k keeps
abbrev pub kept_at : List Float → List ℕ → Float → ℕ → ℕ → ℕ → ℕ → ℕ → ℕ → List ℕ → List Entry
kept_at ps is sag v list count flags base k W = triangle_kept sag ps (take v W) (sides_in ps is v flags base k W) (take count (drop list W))

-- the fan of the triangle at index k, the first new vertex being `next`
abbrev pub fan_at : List ℕ → ℕ → ℕ → List Entry → List ℕ
fan_at is k next C = fan_go (get_or is k 0) None (ring_after (get_or is (k + 1) 0) (get_or is (k + 2) 0) next C)

-- what writing the triangle at index k asks: normals as many as positions, numbers that fit, and room for its vertices behind vo and its indices behind io
pub record TriangleWritable (ps ns : List Float) (is : List ℕ) (sag beyond : Float) (n v list count at ts flags order boxes top base k next vo io : ℕ) (W : List ℕ) (P N : List Float)
    (I : List ℕ) : Type 0 where
  pub ready : TriangleReady ps is sag beyond n v list count at ts flags order boxes top base k W
  pub all : length ns ≡ 3 * v
  pub small : next + 2359296 < 4294967296
  pub room_positions : 3 * (vo + length (kept_at ps is sag v list count flags base k W)) ≤ length P
  pub room_normals : 3 * (vo + length (kept_at ps is sag v list count flags base k W)) ≤ length N
  pub room_indices : io + 3 * length (kept_at ps is sag v list count flags base k W) + 3 ≤ length I

-- what it leaves: the new vertices and the fan behind what was written, where both end now; only entries were written to the work area
pub record TriangleWritten (ps ns : List Float) (is : List ℕ) (sag : Float) (v list count at ts flags base k next vo io : ℕ) (W E : List ℕ) (P P' N N' : List Float) (I I' : List ℕ)
    (vertices indices : ℕ) : Type 0 where
  pub positions : Appended (3 * vo) (new_positions ps (kept_at ps is sag v list count flags base k W)) P P'
  pub normals : Appended (3 * vo) (new_normals ns (base + get_or is k 0) (base + get_or is (k + 1) 0) (base + get_or is (k + 2) 0) (kept_at ps is sag v list count flags base k W)) N N'
  pub indices_are : Appended io (fan_at is k next (kept_at ps is sag v list count flags base k W)) I I'
  pub vertices_end : vertices ≡ vo + length (kept_at ps is sag v list count flags base k W)
  pub indices_end : indices ≡ io + length (fan_at is k next (kept_at ps is sag v list count flags base k W))
  pub front : take at E ≡ take at W
  pub rest : drop (ts + 3 * count) E ≡ drop (ts + 3 * count) W

-- what writing one row asks: whole triangles over the row's vertices, numbers that fit, and room for all that it has behind vo and io
pub record RowWritable (ps ns : List Float) (is : List ℕ) (sag beyond : Float) (n v list count at ts flags order boxes top base vertices from to vo io : ℕ) (W : List ℕ) (P N : List Float)
    (I : List ℕ) : Type 0 where
  pub stands : Stands ps sag beyond n v list count at ts flags order boxes top W
  pub ordered : from ≤ to
  pub whole : (to - from) % 3 ≡ 0
  pub inside : to ≤ n
  pub all_indices_lem : n ≡ length is
  pub few : n ≤ 786432
  pub below : (k : ℕ) → from ≤ k → k < to → get_or is k 0 < vertices
  pub vertices_low : base + vertices ≤ v
  pub all : length ns ≡ 3 * v
  pub small : vo + vertices + kept_in (views_in ps is sag v list count flags base from to W) ≤ 262144
  pub room_positions : 3 * (vo + vertices + kept_in (views_in ps is sag v list count flags base from to W)) ≤ length P
  pub room_normals : 3 * (vo + vertices + kept_in (views_in ps is sag v list count flags base from to W)) ≤ length N
  pub room_indices : io + length (row_indices vertices (views_in ps is sag v list count flags base from to W)) ≤ length I

-- what it leaves: the row's own vertices, its new ones and its indices behind what was written; only entries were written to the work area
pub record RowWritten (ps ns : List Float) (is : List ℕ) (sag : Float) (v list count at ts flags base vertices from to vo io : ℕ) (W E : List ℕ) (P P' N N' : List Float) (I I' : List ℕ)
    (vertices' indices' : ℕ) : Type 0 where
  pub positions : Appended (3 * vo) (take (3 * vertices) (drop (3 * base) ps) ++ row_positions ps (views_in ps is sag v list count flags base from to W)) P P'
  pub normals : Appended (3 * vo) (take (3 * vertices) (drop (3 * base) ns) ++ row_normals ns base (views_in ps is sag v list count flags base from to W)) N N'
  pub indices_are : Appended io (row_indices vertices (views_in ps is sag v list count flags base from to W)) I I'
  pub vertices_end : vertices' ≡ vo + vertices + kept_in (views_in ps is sag v list count flags base from to W)
  pub indices_end : indices' ≡ io + length (row_indices vertices (views_in ps is sag v list count flags base from to W))
  pub front : take at E ≡ take at W
  pub rest : drop (ts + 3 * count) E ≡ drop (ts + 3 * count) W

-- what writing the body asks: a body whose splits can be counted, within the limits, and room in the four slices
pub record BodyWritable (table : List ℕ) (ps ns : List Float) (is : List ℕ) (sag beyond : Float) (v list count at ts flags order boxes top : ℕ) (W R : List ℕ) (P N : List Float)
    (I : List ℕ) : Type 0 where
  pub body : BodyReady table ps is sag beyond v list count at ts flags order boxes top W
  pub all : length ns ≡ 3 * v
  pub small : v + sum_of kept_in (views_of table ps is sag v list count flags W) ≤ 262144
  pub small_indices : length is + 3 * sum_of kept_in (views_of table ps is sag v list count flags W) ≤ 786432
  pub room_rows : row_width * length (rows_of table) ≤ length R
  pub room_positions : 3 * (v + sum_of kept_in (views_of table ps is sag v list count flags W)) ≤ length P
  pub room_normals : 3 * (v + sum_of kept_in (views_of table ps is sag v list count flags W)) ≤ length N
  pub room_indices : length is + 3 * sum_of kept_in (views_of table ps is sag v list count flags W) ≤ length I

-- what it leaves: the stitched body in front of each slice; only entries were written to the work area
pub record BodyWritten (table : List ℕ) (ps ns : List Float) (is : List ℕ) (sag : Float) (v list count at ts flags : ℕ) (W E R R' : List ℕ) (P P' N N' : List Float) (I I' : List ℕ) : Type 0 where
  pub rows_are : R' ≡ written (table_of (viewed_rows (rows_of table) (views_of table ps is sag v list count flags W))) R
  pub positions_are : P' ≡ written (viewed_positions ps (rows_of table) ps (views_of table ps is sag v list count flags W)) P
  pub normals_are : N' ≡ written (viewed_normals ns 0 (rows_of table) ns (views_of table ps is sag v list count flags W)) N
  pub indices_are : I' ≡ written (viewed_indices (rows_of table) (views_of table ps is sag v list count flags W)) I
  pub front : take at E ≡ take at W
  pub rest : drop (ts + 3 * count) E ≡ drop (ts + 3 * count) W
