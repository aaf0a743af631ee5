-- The words of the loose vertices in the order of the search, and the boxes of their blocks. Assumes nothing.
use Rattle.std.specs.Prelude.{◌≡◌, List, ℕ, ◌+◌, ◌*◌, ◌^◌, ◌<◌, ◌≤◌, length, get_or, take, drop, Float}
use Rattle.slice_pairs.specs.Rearranged.{Rearranged}
use Rattle.patch_geometry.specs.Geometry.{point_at}
use Rattle.stitch_boxes.specs.Points.{Point}
use Rattle.stitch_tree.specs.Trees.{Boxed}
use Rattle.stitch_loose_points.specs.Listed.{Listed}
use Rattle.stitch_pairs.specs.FoundPairs.{ranked_from}

-- what writing the words of the loose vertices asks: room for them behind the list
pub record RankReady (v list count order : ℕ) (W : List ℕ) : Type 0 where
  pub listed : Listed v list count W
  pub few : v ≤ 262144
  pub small : count ≤ 786432
  pub apart : list + count ≤ order
  pub room : order + count ≤ length W

-- what it leaves: the words of the list by name
pub record Ranked (list count order : ℕ) (W E : List ℕ) : Type 0 where
  pub ranked : take count (drop order E) ≡ ranked_from 0 (take count (drop list W))
  pub front : take order E ≡ take order W
  pub rest : drop (order + count) E ≡ drop (order + count) W

-- what putting them in order asks: points of finite f32 coordinates, and room for the boxes behind the words
pub record OrderReady (ps : List Float) (v list count order boxes : ℕ) (W : List ℕ) : Type 0 where
  pub listed : Listed v list count W
  pub few : v ≤ 262144
  pub all : length ps ≡ 3 * v
  pub points : (g : ℕ) → g < v → Point (point_at ps g)
  pub small : count ≤ 786432
  pub behind : list + count ≤ order
  pub apart : order + count ≤ boxes
  pub room : boxes + 3 * count ≤ length W
  pub least : 0 < count → boxes + 12 ≤ length W

-- what it leaves: the words of the list in another order, and their boxes if there are any; all else is as it was
pub record OrderMade (ps : List Float) (list count order boxes : ℕ) (W E : List ℕ) (top : ℕ) : Type 0 where
  pub ranked : Rearranged (take count (drop order E)) (ranked_from 0 (take count (drop list E)))
  pub boxed : 0 < count → Boxed ps order count boxes top E
  pub low : top ≤ 17
  pub inside : 0 < count → boxes + 12 * 2 ^ top ≤ length E
  pub front : take order E ≡ take order W
  pub between : (k : ℕ) → order + count ≤ k → k < boxes → get_or E k 0 ≡ get_or W k 0
  pub rest : (b : ℕ) → (0 < count → boxes + 12 ≤ b) → boxes + 3 * count ≤ b → drop b E ≡ drop b W
