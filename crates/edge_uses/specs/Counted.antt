-- How many uses each edge has, counted at its first use. Assumes nothing.
use Rattle.std.specs.Prelude.{◌≡◌, List, ℕ, ◌+◌, ◌≤◌, ◌<◌, length, get_or, take, drop, eqb}
use Rattle.lists.specs.Lists.{count_if}

-- what `count_uses` asks: the first uses of n uses stand from `firsts` on, in front of the counts, and the counts have room
pub record CountReady (W : List ℕ) (firsts counts n : ℕ) : Type 0 where
  pub apart : firsts + n ≤ counts
  pub room : counts + n ≤ length W
  pub low : (i : ℕ) → i < n → get_or W (firsts + i) 0 < n

-- what one step asks: use i's first use and its count stand in the work area, and the count can grow
pub record StepReady (W : List ℕ) (firsts counts i : ℕ) : Type 0 where
  pub inside : firsts + i < length W
  pub room : counts + get_or W (firsts + i) 0 < length W
  pub small : get_or W (counts + get_or W (firsts + i) 0) 0 < length W

-- what `count_uses` ensures: at each use's place how many have it as their first use; nothing else was written
pub record Counted (W : List ℕ) (firsts counts n : ℕ) (E : List ℕ) : Type 0 where
  pub count : (j : ℕ) → j < n → get_or E (counts + j) 0 ≡ count_if (eqb j) (take n (drop firsts W))
  pub front : take counts E ≡ take counts W
  pub rest : drop (counts + n) E ≡ drop (counts + n) W
