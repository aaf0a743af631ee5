-- A tree of boxes over order words: eight words a leaf, 2 ^ top leaves, and the box of every node holds the points of its leaves. Assumes nothing.
use Rattle.std.specs.Prelude.{◌≡◌, List, ℕ, ◌+◌, ◌*◌, ◌/◌, ◌%◌, ◌^◌, ◌<◌, ◌≤◌, length, get_or, take, drop, Float}
use Rattle.patch_geometry.specs.Geometry.{point_at}
use Rattle.stitch_boxes.specs.Boxes.{Within}
use Rattle.stitch_boxes.specs.Points.{Point, BoxEnds}
use Rattle.slice_pairs.specs.Rearranged.{Rearranged}
use Rattle.stitch_tree.specs.Nodes.{point_of, box_at}

-- the boxes of the n words from `order` on: node k's stands at boxes + 6 k, and leaf i is node 2 ^ top + i
pub record Boxed (ps : List Float) (order n boxes top : ℕ) (W : List ℕ) : Type 0 where
  pub few : n ≤ 8 * 2 ^ top
  pub ends : (k : ℕ) → 1 ≤ k → k < 2 * 2 ^ top → BoxEnds (box_at W (boxes + 6 * k))
  pub holds : (j h : ℕ) → j < n → h ≤ top → Within (box_at W (boxes + 6 * ((2 ^ top + j / 8) / 2 ^ h))) (point_of ps (get_or W (order + j) 0))

-- the least height of a tree over n words
pub record HeightOf (n r : ℕ) : Type 0 where
  pub few : n ≤ 8 * 2 ^ r
  pub low : r ≤ 17
  pub least : (b : ℕ) → 12 ≤ b → 3 * n ≤ b → 12 * 2 ^ r ≤ b

-- what making a tree asks: words of v points of finite f32 coordinates, and behind them room for the boxes
pub record TreeReady (ps : List Float) (v order n boxes : ℕ) (W : List ℕ) : Type 0 where
  pub all : length ps ≡ 3 * v
  pub points : (g : ℕ) → g < v → Point (point_at ps g)
  pub few : n ≤ 786432
  pub below : (j : ℕ) → j < n → get_or W (order + j) 0 % 262144 < v
  pub apart : order + n ≤ boxes
  pub room : boxes + 3 * n ≤ length W
  pub least : boxes + 12 ≤ length W

-- what it leaves: the same words in another order, and their boxes
pub record TreeMade (ps : List Float) (v order n boxes : ℕ) (W E : List ℕ) (top : ℕ) : Type 0 where
  pub boxed : Boxed ps order n boxes top E
  pub low : top ≤ 17
  pub same : Rearranged (take n (drop order E)) (take n (drop order W))
  pub front : take order E ≡ take order W
  pub between : (k : ℕ) → order + n ≤ k → k < boxes → get_or E k 0 ≡ get_or W k 0
  pub inside : boxes + 12 * 2 ^ top ≤ length E
  pub rest : (b : ℕ) → boxes + 12 ≤ b → boxes + 3 * n ≤ b → drop b E ≡ drop b W
