-- Order words, boxes in words of the work area, and what bounding points, leaves and nodes asks and leaves. Assumes nothing.
use Rattle.std.specs.Prelude.{◌≡◌, List, ℕ, ◌+◌, ◌*◌, ◌/◌, ◌%◌, ◌<◌, ◌≤◌, length, get_or, take, drop, Float}
use Rattle.float_steps.specs.Floats.{f64}
use Rattle.float_spans.specs.declared.Span.{Span}
use Rattle.patch_geometry.specs.declared.Vec3.{Vec3}
use Rattle.patch_geometry.specs.Geometry.{point_at}
use Rattle.stitch_boxes.specs.declared.Bounds.{Bounds}
use Rattle.stitch_boxes.specs.Boxes.{Within, hull_v}
use Rattle.stitch_boxes.specs.Points.{Point, BoxEnds}

-- the point of an order word, which is 262144 times a place and a vertex
abbrev pub point_of : List Float → ℕ → Vec3
point_of ps o = point_at ps (o % 262144)

-- the span whose ends stand at k
abbrev pub span_at : List ℕ → ℕ → Span
span_at W k = record { low = f64 (get_or W k 0); high = f64 (get_or W (k + 1) 0) }

-- the box whose spans stand at k
abbrev pub box_at : List ℕ → ℕ → Bounds
box_at W k = record { x = span_at W k; y = span_at W (k + 2); z = span_at W (k + 4) }

-- the span s was written at k
pub record SpanPut (k : ℕ) (s : Span) (W E : List ℕ) : Type 0 where
  pub is : span_at E k ≡ s
  pub front : take k E ≡ take k W
  pub rest : drop (k + 2) E ≡ drop (k + 2) W

-- the box b was written at k
pub record BoxPut (k : ℕ) (b : Bounds) (W E : List ℕ) : Type 0 where
  pub is : box_at E k ≡ b
  pub front : take k E ≡ take k W
  pub rest : drop (k + 6) E ≡ drop (k + 6) W

-- word j is of one of v points
pub record PointHeld (ps : List Float) (v j : ℕ) (W : List ℕ) : Type 0 where
  pub all : length ps ≡ 3 * v
  pub below : get_or W j 0 % 262144 < v
  pub room : j < length W

-- and an axis is one of three
pub record CoordinateHeld (ps : List Float) (v j axis : ℕ) (W : List ℕ) : Type 0 where
  pub point : PointHeld ps v j W
  pub flat : axis < 3

-- the words from `from` up to `to` are each of one of v points of finite f32 coordinates
pub record Pointed (ps : List Float) (v from to : ℕ) (W : List ℕ) : Type 0 where
  pub all : length ps ≡ 3 * v
  pub points : (g : ℕ) → g < v → Point (point_at ps g)
  pub below : (j : ℕ) → from ≤ j → j < to → get_or W j 0 % 262144 < v
  pub room : to ≤ length W

-- the box r holds the points of these words
pub record PointsBounded (ps : List Float) (from to : ℕ) (W : List ℕ) (r : Bounds) : Type 0 where
  pub ends : BoxEnds r
  pub holds : (j : ℕ) → from ≤ j → j < to → Within r (point_of ps (get_or W j 0))

-- what bounding leaf i of the n words from `order` on asks; its box is to stand at k
pub record LeafReady (ps : List Float) (v order n i k : ℕ) (W : List ℕ) : Type 0 where
  pub words : Pointed ps v order (order + n) W
  pub inside : order + 8 * i ≤ k
  pub room : k + 6 ≤ length W

-- what it leaves: the box of the points of the leaf at k
pub record LeafBounded (ps : List Float) (order n i k : ℕ) (W E : List ℕ) : Type 0 where
  pub ends : BoxEnds (box_at E k)
  pub holds : (j : ℕ) → j < n → j / 8 ≡ i → Within (box_at E k) (point_of ps (get_or W (order + j) 0))
  pub front : take k E ≡ take k W
  pub rest : drop (k + 6) E ≡ drop (k + 6) W

-- what bounding the leaves asks: room for two boxes a leaf, behind the words
pub record LeavesReady (ps : List Float) (v order n boxes leaves : ℕ) (W : List ℕ) : Type 0 where
  pub words : Pointed ps v order (order + n) W
  pub apart : order + n ≤ boxes
  pub room : boxes + 12 * leaves ≤ length W

-- what it leaves: the boxes of the leaves, as nodes from `leaves` on
pub record LeavesBounded (ps : List Float) (order n boxes leaves : ℕ) (W E : List ℕ) : Type 0 where
  pub ends : (i : ℕ) → i < leaves → BoxEnds (box_at E (boxes + 6 * (leaves + i)))
  pub holds : (j : ℕ) → j < n → j / 8 < leaves → Within (box_at E (boxes + 6 * (leaves + j / 8))) (point_of ps (get_or W (order + j) 0))
  pub front : take boxes E ≡ take boxes W
  pub rest : drop (boxes + 12 * leaves) E ≡ drop (boxes + 12 * leaves) W

-- what bounding node k asks: it is no leaf, and has room
pub record NodeReady (boxes k : ℕ) (W : List ℕ) : Type 0 where
  pub inner : 1 ≤ k
  pub room : boxes + 12 * k + 12 ≤ length W

-- the box of node k is that of its halves
abbrev pub Halved : ℕ → List ℕ → ℕ → Type 0
Halved boxes E k = box_at E (boxes + 6 * k) ≡ hull_v (box_at E (boxes + 6 * (2 * k))) (box_at E (boxes + 6 * (2 * k + 1)))

-- what it leaves: the hull of the boxes of its halves
pub record NodeBounded (boxes k : ℕ) (W E : List ℕ) : Type 0 where
  pub hull : Halved boxes E k
  pub front : take (boxes + 6 * k) E ≡ take (boxes + 6 * k) W
  pub rest : drop (boxes + 6 * (k + 1)) E ≡ drop (boxes + 6 * (k + 1)) W

-- what bounding all nodes asks
pub record NodesReady (boxes leaves : ℕ) (W : List ℕ) : Type 0 where
  pub some : 1 ≤ leaves
  pub room : boxes + 12 * leaves ≤ length W

-- what it leaves: each node's box that of its halves, and the leaves' boxes as they were
pub record NodesBounded (boxes leaves : ℕ) (W E : List ℕ) : Type 0 where
  pub hulls : (k : ℕ) → 1 ≤ k → k < leaves → Halved boxes E k
  pub front : take boxes E ≡ take boxes W
  pub rest : drop (boxes + 6 * leaves) E ≡ drop (boxes + 6 * leaves) W
