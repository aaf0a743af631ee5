-- What a triangle's new vertices and fan add to the slices of the stitched body. Assumes nothing.
use Rattle.std.specs.Prelude.{◌≡◌, None, List, ℕ, ◌+◌, ◌*◌, ◌%◌, ◌<◌, ◌≤◌, length, get_or, Float}
use Rattle.stitch_splits.specs.Entries.{entries_in}
use Rattle.stitch_rings.specs.Rings.{ring_after, fan_go}
use Rattle.slice_append.specs.Appended.{Appended}

-- what writing the new vertices asks: `kept` entries of vertices whose coordinates are there, and room for three numbers each
pub record VerticesReady (xs : List Float) (W : List ℕ) (at ts kept o : ℕ) (out : List Float) : Type 0 where
  pub words : at + kept ≤ length W
  pub parameters : ts + kept ≤ length W
  pub inside : (j : ℕ) → j < kept → 3 * (get_or W (at + j) 0 % 262144) + 2 < length xs
  pub room : o + 3 * kept ≤ length out

-- what writing the new normals asks: corners whose normals are there, and room
pub record NormalsReady (xs : List Float) (a b c : ℕ) (W : List ℕ) (at ts kept o : ℕ) (out : List Float) : Type 0 where
  pub words : at + kept ≤ length W
  pub parameters : ts + kept ≤ length W
  pub in_a : 3 * a + 2 < length xs
  pub in_b : 3 * b + 2 < length xs
  pub in_c : 3 * c + 2 < length xs
  pub room : o + 3 * kept ≤ length out

-- what writing the fan asks: numbers that fit, and room for three indices for each entry and three more
pub record FanReady (a b c next : ℕ) (W : List ℕ) (at kept o : ℕ) (out : List ℕ) : Type 0 where
  pub words : at + kept ≤ length W
  pub small : next + kept < 4294967296
  pub room : o + 3 * kept + 3 ≤ length out

-- what it leaves: the triangles of the fan from corner a, from place o on, and behind them all as it was; the answer is where they end
pub record FanWritten (a b c next : ℕ) (W : List ℕ) (at ts kept o : ℕ) (out new : List ℕ) (r : ℕ) : Type 0 where
  pub fan_is : Appended o (fan_go a None (ring_after b c next (entries_in W at ts kept))) out new
  pub end_is : r ≡ o + length (fan_go a None (ring_after b c next (entries_in W at ts kept)))
  pub few : r ≤ o + 3 * kept + 3
