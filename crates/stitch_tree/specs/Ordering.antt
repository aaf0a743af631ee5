-- What putting points in an order asks and leaves: words are only swapped. Assumes nothing.
use Rattle.std.specs.Prelude.{◌≡◌, List, ℕ, ◌+◌, ◌<◌, ◌≤◌, length, take, drop, Float}
use Rattle.slice_pairs.specs.Rearranged.{Rearranged}
use Rattle.stitch_tree.specs.Nodes.{Pointed}

-- W became E by swaps of words from `from` up to `to`: every stretch that holds these has the same words
pub record Permuted (from to : ℕ) (W E : List ℕ) : Type 0 where
  pub same : (at n : ℕ) → at ≤ from → to ≤ at + n → at + n ≤ length W → Rearranged (take n (drop at E)) (take n (drop at W))
  pub front : take from E ≡ take from W
  pub rest : drop to E ≡ drop to W
  pub long : length E ≡ length W

-- a stretch of words of points
pub record Stretch (ps : List Float) (v from to : ℕ) (W : List ℕ) : Type 0 where
  pub words : Pointed ps v from to W
  pub ordered : from ≤ to

-- and an axis
pub record PartReady (ps : List Float) (v from to axis : ℕ) (W : List ℕ) : Type 0 where
  pub stretch : Stretch ps v from to W
  pub flat : axis < 3

-- the words were parted at r
pub record Parted (from to : ℕ) (W E : List ℕ) (r : ℕ) : Type 0 where
  pub permuted : Permuted from to W E
  pub low : from ≤ r
  pub high : r ≤ to

-- what halving blocks of twice `half` of the n words asks
pub record BlocksReady (ps : List Float) (v order n half : ℕ) (W : List ℕ) : Type 0 where
  pub words : Pointed ps v order (order + n) W
  pub few : n ≤ 786432
  pub some : 1 ≤ half
  pub small : half ≤ 524288

-- what ordering n words by halving asks
pub record OrderReady (ps : List Float) (v order n leaves : ℕ) (W : List ℕ) : Type 0 where
  pub words : Pointed ps v order (order + n) W
  pub few : n ≤ 786432
  pub small : leaves ≤ 131072
