-- A triangle's splits in the work area: the loose vertices found on each edge in the order of the search, and the entries kept. Assumes nothing.
--
-- The vertices' names are the first v words. A word of the search's order, of which `count` stand at `order`, is 262144 times a loose vertex's place in the
-- list by name, and the vertex. The boxes of the words' blocks stand at `boxes`. What is found goes in pairs of words to `at` and `ts`, where the entries
-- that are kept stand in the end.
use Rattle.std.specs.Prelude.{◌≡◌, Bool, List, [], ◌∷◌, ◌++◌, ℕ, ◌+◌, ◌*◌, ◌/◌, ◌%◌, ◌^◌, ◌<◌, ◌≤◌, length, get_or, take, drop, Float}
use Rattle.lists.specs.Lists.{count_if}
use Rattle.patch_geometry.specs.declared.Vec3.{Vec3}
use Rattle.patch_geometry.specs.Geometry.{point_at}
use Rattle.stitch_projection.specs.declared.Edge.{Edge}
use Rattle.stitch_projection.specs.Projection.{edge_of}
use Rattle.stitch_sag.specs.Beyond.{Beyond}
use Rattle.stitch_boxes.specs.Points.{Point}
use Rattle.slice_pairs.specs.Rearranged.{Rearranged}
use Rattle.slice_pairs.specs.Pairs.{pairs_in}
use Rattle.stitch_loose_points.specs.Listed.{Listed}
use Rattle.stitch_splits.specs.declared.sides.Sides.{Sides}
use Rattle.stitch_splits.specs.declared.sides.TriangleEdge.{TriangleEdge}
use Rattle.stitch_splits.specs.Entries.{entries_in}
use Rattle.stitch_splits.specs.Found.{side_of, found_only, triangle_found, triangle_kept}
use Rattle.stitch_pairs.specs.FoundPairs.{ranked_from, found_pairs}
use Rattle.stitch_tree.specs.Trees.{Boxed}

-- whether the vertex of a word is found on edge e
abbrev pub is_found : Float → List Float → List ℕ → Sides → ℕ → ℕ → Bool
is_found sag ps ns s e o = found_only sag s e (get_or ns (o % 262144) 0) (point_at ps (o % 262144))

-- the words of `count` loose vertices, behind the names of v vertices
pub record Ordered (ps : List Float) (v order count : ℕ) (W : List ℕ) : Type 0 where
  pub few : v ≤ 262144
  pub all : length ps ≡ 3 * v
  pub behind : v ≤ order
  pub room : order + count ≤ length W
  pub below : (j : ℕ) → j < count → get_or W (order + j) 0 % 262144 < v
  pub small : (j : ℕ) → j < count → get_or W (order + j) 0 < 274877906944

-- what looking at the point of word j asks
pub record PointReady (ps : List Float) (v order count j : ℕ) (W : List ℕ) : Type 0 where
  pub ordered : Ordered ps v order count W
  pub inside : j < count

-- what trying the vertex of word j on edge e asks: room for one pair more, and a count that can grow
pub record TryReady (ps : List Float) (sag beyond : Float) (v order count j e at ts found placed : ℕ) (W : List ℕ) : Type 0 where
  pub ordered : Ordered ps v order count W
  pub inside : j < count
  pub behind : order + count ≤ at
  pub apart : at + placed < ts
  pub room : ts + placed < length W
  pub edge : e ≤ 2
  pub countable : found < 4611686018427387904
  pub far : Beyond sag beyond

-- what finding the vertices of the words `os` on edge e leaves: a pair for each that is found and placed, behind those before; nothing else was written
pub record FoundIn (ps : List Float) (sag : Float) (s : Sides) (v e at ts found placed : ℕ) (os W E : List ℕ) (found' placed' : ℕ) : Type 0 where
  pub pairs : pairs_in E at ts placed' ≡ pairs_in W at ts placed ++ found_pairs sag ps (take v W) s e os
  pub more : found' ≡ found + count_if (is_found sag ps (take v W) s e) os
  pub bound : found' ≤ found + length os
  pub few : placed' ≤ placed + length os
  pub front : take at E ≡ take at W
  pub rest : drop (ts + placed + length os) E ≡ drop (ts + placed + length os) W

-- the words of the block that begins at place j
abbrev pub block_of : List ℕ → ℕ → ℕ → ℕ → List ℕ
block_of W order count j = take 8 (drop j (take count (drop order W)))

-- what trying the block at place `from` asks: room for a pair for each vertex from there on
pub record BlockReady (ps : List Float) (sag beyond : Float) (v order count from e at ts found placed : ℕ) (W : List ℕ) : Type 0 where
  pub ordered : Ordered ps v order count W
  pub inside : from < count
  pub behind : order + count ≤ at
  pub apart : at + placed + count ≤ ts + from
  pub room : ts + placed + count ≤ length W + from
  pub edge : e ≤ 2
  pub countable : found + count ≤ 4611686018427387904 + from
  pub far : Beyond sag beyond

-- the end of the block that begins at place `from`
pub record BlockEnd (from count r : ℕ) : Type 0 where
  pub inside : from ≤ r
  pub low : r ≤ count
  pub short : r ≤ from + 8
  pub whole : r < count → r ≡ from + 8

-- where the search stands: 2 ^ height leaves from `leaf` on are a node's
pub record NodeAt (leaf height top : ℕ) : Type 0 where
  pub inside : leaf < 2 ^ top
  pub low : height ≤ top
  pub small : top ≤ 17
  pub first : leaf % 2 ^ height ≡ 0

-- what looking at a node's box asks
pub record BoxReady (boxes leaf height top : ℕ) (W : List ℕ) : Type 0 where
  pub node : NodeAt leaf height top
  pub room : boxes + 12 * 2 ^ top ≤ length W

-- what looking for the height of the next node asks
pub record RaiseReady (height top : ℕ) : Type 0 where
  pub low : height ≤ top
  pub small : top ≤ 17

-- the height of the next node, once all leaves before `leaf` are done
pub record Raised (leaf height top r : ℕ) : Type 0 where
  pub low : r ≤ top
  pub first : leaf % 2 ^ height ≡ 0 → leaf % 2 ^ r ≡ 0

-- an edge between two points of finite f32 coordinates
pub record PointEdge (s : Edge) : Type 0 where
  pub p : Vec3
  pub q : Vec3
  pub is : s ≡ edge_of p q
  pub start : Point p
  pub end : Point q

-- what finding on edge e asks: the tree, if there are loose vertices, and room for a pair for each of them
pub record FindOn (ps : List Float) (sag beyond : Float) (s : Sides) (v order count boxes top e at ts found placed : ℕ) (W : List ℕ) : Type 0 where
  pub ordered : Ordered ps v order count W
  pub points : (g : ℕ) → g < v → Point (point_at ps g)
  pub boxed : 0 < count → Boxed ps order count boxes top W
  pub low : top ≤ 17
  pub behind : order + count ≤ at
  pub apart : at + placed + count ≤ ts
  pub room : ts + placed + count ≤ boxes
  pub long : ts + placed + count ≤ length W
  pub boxes_room : 0 < count → boxes + 12 * 2 ^ top ≤ length W
  pub edge : e ≤ 2
  pub pointed : PointEdge (side_of s e).edge
  pub countable : found + count ≤ 4611686018427387904
  pub far : Beyond sag beyond

-- what splitting a triangle asks: the words in order are those of the list by name, and the pairs have three words of each kind for a loose vertex
pub record Splittable (ps : List Float) (sag beyond : Float) (s : Sides) (v list count at ts order boxes top : ℕ) (W : List ℕ) : Type 0 where
  pub listed : Listed v list count W
  pub few : v ≤ 262144
  pub all : length ps ≡ 3 * v
  pub points : (g : ℕ) → g < v → Point (point_at ps g)
  pub list_behind : list + count ≤ at
  pub order_names : v ≤ order
  pub behind : order + count ≤ at
  pub apart : at + 3 * count ≤ ts
  pub room : ts + 3 * count ≤ boxes
  pub long : ts + 3 * count ≤ length W
  pub boxes_room : 0 < count → boxes + 12 * 2 ^ top ≤ length W
  pub small : count ≤ 786432
  pub ranked : Rearranged (take count (drop order W)) (ranked_from 0 (take count (drop list W)))
  pub boxed : 0 < count → Boxed ps order count boxes top W
  pub low : top ≤ 17
  pub first : PointEdge s.first.edge
  pub second : PointEdge s.second.edge
  pub third : PointEdge s.third.edge
  pub far : Beyond sag beyond

-- what it leaves: how many points split the triangle, and the entries that it keeps; nothing but the entries was written
pub record Split (ps : List Float) (sag : Float) (s : Sides) (v list count at ts : ℕ) (W E : List ℕ) (found kept : ℕ) : Type 0 where
  pub found_is : found ≡ triangle_found sag ps (take v W) s (take count (drop list W))
  pub kept_are : entries_in E at ts kept ≡ triangle_kept sag ps (take v W) s (take count (drop list W))
  pub few_found : found ≤ 3 * count
  pub few : kept ≤ 3 * count
  pub front : take at E ≡ take at W
  pub rest : drop (ts + 3 * count) E ≡ drop (ts + 3 * count) W
