-- The least of some pairs. Assumes nothing.
use Rattle.std.specs.Prelude.{List, ℕ, ◌≤◌, ◌<◌}
use Rattle.slice_pairs.specs.Pairs.{PairsHeld, pair_at}

-- n pairs, at least one
pub record SomePairs (at ts n : ℕ) (W : List ℕ) : Type 0 where
  pub some : 0 < n
  pub held : PairsHeld at ts n W

-- the pair at place r is the least
pub record LeastPair (at ts n : ℕ) (W : List ℕ) (r : ℕ) : Type 0 where
  pub inside : r < n
  pub least : (j : ℕ) → j < n → pair_at W at ts r ≤ pair_at W at ts j
