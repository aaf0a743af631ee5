-- The splits of a triangle, of a row and of the body, counted in the work area. Assumes nothing.
--
-- The names of v vertices are the first words, `count` loose vertices stand at `list`, their words in the order of the search at `order`, the uses' flags at
-- `flags`; the entries of one triangle at a time stand at `at` and their parameters at `ts`, behind all of these, and behind both the boxes at `boxes`.
use Rattle.std.specs.Prelude.{◌≡◌, List, ℕ, ◌+◌, ◌-◌, ◌*◌, ◌%◌, ◌^◌, ◌<◌, ◌≤◌, length, get_or, take, drop, Float}
use Rattle.lists.specs.Lists.{sum_of}
use Rattle.body_rows.specs.Body.{triangles_of, rows_of, all_vertices, all_indices}
use Rattle.body_rows.specs.Rows.{WholeRows, row_at, indices_before}
use Rattle.patch_geometry.specs.Geometry.{point_at}
use Rattle.slice_pairs.specs.Rearranged.{Rearranged}
use Rattle.stitch_sag.specs.Beyond.{Beyond}
use Rattle.stitch_boxes.specs.Points.{Point}
use Rattle.stitch_tree.specs.Trees.{Boxed}
use Rattle.stitch_loose_points.specs.Listed.{Listed, CornerAt}
use Rattle.stitch_splits.specs.declared.sides.Sides.{Sides}
use Rattle.stitch_splits.specs.Entries.{entries_in}
use Rattle.stitch_splits.specs.Found.{triangle_found, triangle_kept}
use Rattle.stitch_pairs.specs.FoundPairs.{ranked_from}
use Rattle.stitch_count.specs.Views.{View, sides_at, view_of, row_views, body_views, found_in, kept_in}

-- what an edge between the vertices g and h asks
pub record EdgeReady (ps : List Float) (v g h : ℕ) (W : List ℕ) : Type 0 where
  pub all : length ps ≡ 3 * v
  pub names : v ≤ length W
  pub start : g < v
  pub end : h < v

-- what the sides of the triangle at index k ask
pub record SidesReady (ps : List Float) (is : List ℕ) (v flags base k : ℕ) (W : List ℕ) : Type 0 where
  pub all : length ps ≡ 3 * v
  pub names : v ≤ length W
  pub room : flags + k + 3 ≤ length W
  pub in_a : CornerAt is base v k
  pub in_b : CornerAt is base v (k + 1)
  pub in_c : CornerAt is base v (k + 2)

-- the sides of the triangle at index k, whose row's vertices start at `base`
abbrev pub sides_in : List Float → List ℕ → ℕ → ℕ → ℕ → ℕ → List ℕ → Sides
sides_in ps is v flags base k W =
    sides_at ps (take v W) (base + get_or is k 0) (base + get_or is (k + 1) 0) (base + get_or is (k + 2) 0) (get_or W (flags + k) 0) (get_or W (flags + k + 1) 0) (get_or W (flags + k + 2) 0)

-- where things stand: the loose vertices, their words in order and the flags behind the names, behind these the entries, with three words of each kind for a
-- loose vertex, and then the boxes; the vertices are points of finite f32 coordinates
pub record Stands (ps : List Float) (sag beyond : Float) (n v list count at ts flags order boxes top : ℕ) (W : List ℕ) : Type 0 where
  pub listed : Listed v list count W
  pub few : v ≤ 262144
  pub all : length ps ≡ 3 * v
  pub points : (g : ℕ) → g < v → Point (point_at ps g)
  pub flags_behind : list + count ≤ flags
  pub order_names : v ≤ order
  pub order_behind : order + count ≤ flags
  pub behind : flags + n ≤ at
  pub apart : at + 3 * count ≤ ts
  pub room : ts + 3 * count ≤ boxes
  pub long : ts + 3 * count ≤ length W
  pub boxes_room : 0 < count → boxes + 12 * 2 ^ top ≤ length W
  pub small : count ≤ 786432
  pub ranked : Rearranged (take count (drop order W)) (ranked_from 0 (take count (drop list W)))
  pub boxed : 0 < count → Boxed ps order count boxes top W
  pub low : top ≤ 17
  pub far : Beyond sag beyond

-- what the splits of the triangle at index k ask
pub record TriangleReady (ps : List Float) (is : List ℕ) (sag beyond : Float) (n v list count at ts flags order boxes top base k : ℕ) (W : List ℕ) : Type 0 where
  pub stands : Stands ps sag beyond n v list count at ts flags order boxes top W
  pub inside : k + 3 ≤ n
  pub in_a : CornerAt is base v k
  pub in_b : CornerAt is base v (k + 1)
  pub in_c : CornerAt is base v (k + 2)

-- what they leave: how many points split the triangle, and the entries that it keeps
pub record TriangleDone (ps : List Float) (is : List ℕ) (sag : Float) (v list count at ts flags base k : ℕ) (W E : List ℕ) (found kept : ℕ) : Type 0 where
  pub found_is : found ≡ triangle_found sag ps (take v W) (sides_in ps is v flags base k W) (take count (drop list W))
  pub kept_are : entries_in E at ts kept ≡ triangle_kept sag ps (take v W) (sides_in ps is v flags base k W) (take count (drop list W))
  pub few_found : found ≤ 2359296
  pub few_kept : kept ≤ 2359296
  pub held : kept ≤ 3 * count
  pub front : take at E ≡ take at W
  pub rest : drop (ts + 3 * count) E ≡ drop (ts + 3 * count) W

-- the view of the triangle at index k
abbrev pub view_in : List Float → List ℕ → Float → ℕ → ℕ → ℕ → ℕ → ℕ → ℕ → List ℕ → View
view_in ps is sag v list count flags base k W =
    view_of sag ps (take v W) (take count (drop list W)) base (get_or W (flags + k) 0) (get_or W (flags + k + 1) 0) (get_or W (flags + k + 2) 0)
    (record { a = get_or is k 0; b = get_or is (k + 1) 0; c = get_or is (k + 2) 0 })

-- what counting its splits leaves: how many points split it and how many new vertices it has; of the flags at most its own changed, and its view is the same
pub record TriangleCounted (ps : List Float) (is : List ℕ) (sag : Float) (v list count at ts flags base k : ℕ) (W E : List ℕ) (found kept : ℕ) : Type 0 where
  pub found_is : found ≡ (view_in ps is sag v list count flags base k W).found
  pub kept_is : kept ≡ length (view_in ps is sag v list count flags base k W).kept
  pub few_found : found ≤ 2359296
  pub few_kept : kept ≤ 2359296
  pub view : view_in ps is sag v list count flags base k E ≡ view_in ps is sag v list count flags base k W
  pub front : take (flags + k) E ≡ take (flags + k) W
  pub behind : (j : ℕ) → k + 3 ≤ j → flags + j < at → get_or E (flags + j) 0 ≡ get_or W (flags + j) 0
  pub rest : drop (ts + 3 * count) E ≡ drop (ts + 3 * count) W

-- the views of the row whose indices stand from `from` up to `to`
abbrev pub views_in : List Float → List ℕ → Float → ℕ → ℕ → ℕ → ℕ → ℕ → ℕ → ℕ → List ℕ → List View
views_in ps is sag v list count flags base from to W =
    row_views sag ps (take v W) (take count (drop list W)) base (take (to - from) (drop (flags + from) W)) (triangles_of (take (to - from) (drop from is)))

-- what counting a row asks: whole triangles over the row's vertices, and counts that can grow
pub record RowReady (ps : List Float) (is : List ℕ) (sag beyond : Float) (n v list count at ts flags order boxes top base vertices from to found kept : ℕ) (W : List ℕ) : Type 0 where
  pub stands : Stands ps sag beyond n v list count at ts flags order boxes top W
  pub ordered : from ≤ to
  pub whole : (to - from) % 3 ≡ 0
  pub inside : to ≤ n
  pub all : n ≡ length is
  pub few : n ≤ 786432
  pub below : (k : ℕ) → from ≤ k → k < to → get_or is k 0 < vertices
  pub vertices_low : base + vertices ≤ v
  pub found_low : found ≤ 2359296 * from
  pub kept_low : kept ≤ 2359296 * from

-- what it leaves: the counts with the row's, or with those of its first triangles if the new vertices pass a limit of the result; of the flags only the row's
-- changed, and its views are the same
pub record RowCounted (ps : List Float) (is : List ℕ) (sag : Float) (v list count at ts flags base from to found kept : ℕ) (W E : List ℕ) (found' kept' : ℕ) : Type 0 where
  pub views : views_in ps is sag v list count flags base from to E ≡ views_in ps is sag v list count flags base from to W
  pub exact : v + kept' ≤ 262144 → length is + 3 * kept' ≤ 786432 → kept' ≡ kept + kept_in (views_in ps is sag v list count flags base from to W)
  pub found_is : v + kept' ≤ 262144 → length is + 3 * kept' ≤ 786432 → found' ≡ found + found_in (views_in ps is sag v list count flags base from to W)
  pub most : kept' ≤ kept + kept_in (views_in ps is sag v list count flags base from to W)
  pub rising : kept ≤ kept'
  pub found_low : found' ≤ 2359296 * to
  pub kept_low : kept' ≤ 2359296 * to
  pub front : take (flags + from) E ≡ take (flags + from) W
  pub behind : (j : ℕ) → to ≤ j → flags + j < at → get_or E (flags + j) 0 ≡ get_or W (flags + j) 0
  pub rest : drop (ts + 3 * count) E ≡ drop (ts + 3 * count) W

-- what counting the body asks
pub record BodyReady (table : List ℕ) (ps : List Float) (is : List ℕ) (sag beyond : Float) (v list count at ts flags order boxes top : ℕ) (W : List ℕ) : Type 0 where
  pub stands : Stands ps sag beyond (length is) v list count at ts flags order boxes top W
  pub rows : WholeRows table
  pub vertices : all_vertices (rows_of table) ≡ v
  pub all : length is ≡ all_indices (rows_of table)
  pub few : all_indices (rows_of table) ≤ 786432
  pub threes : (k : ℕ) → k < length (rows_of table) → (row_at table k).indices % 3 ≡ 0
  pub inside : (k j : ℕ) → k < length (rows_of table) → j < (row_at table k).indices → get_or is (indices_before (rows_of table) k + j) 0 < (row_at table k).vertices

-- the views of all rows
abbrev pub views_of : List ℕ → List Float → List ℕ → Float → ℕ → ℕ → ℕ → ℕ → List ℕ → List (List View)
views_of table ps is sag v list count flags W = body_views sag ps (take v W) (take count (drop list W)) 0 (take (length is) (drop flags W)) (rows_of table) is

-- what it leaves: how many points split the triangles, and how many new vertices there are, unless these pass a limit of the result; the views are the same
pub record BodyCounted (table : List ℕ) (ps : List Float) (is : List ℕ) (sag : Float) (v list count at ts flags : ℕ) (W E : List ℕ) (found kept : ℕ) : Type 0 where
  pub views : views_of table ps is sag v list count flags E ≡ views_of table ps is sag v list count flags W
  pub exact : v + kept ≤ 262144 → length is + 3 * kept ≤ 786432 → kept ≡ sum_of kept_in (views_of table ps is sag v list count flags W)
  pub found_is : v + kept ≤ 262144 → length is + 3 * kept ≤ 786432 → found ≡ sum_of found_in (views_of table ps is sag v list count flags W)
  pub most : kept ≤ sum_of kept_in (views_of table ps is sag v list count flags W)
  pub kept_low : kept ≤ 2359296 * 786432
  pub front : take flags E ≡ take flags W
  pub rest : drop (ts + 3 * count) E ≡ drop (ts + 3 * count) W
