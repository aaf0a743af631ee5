-- The edges counted from the words of their uses. Assumes nothing.
use Rattle.std.specs.Prelude.{◌≡◌, cond, List, [], map, ℕ, ◌+◌, ◌*◌, ◌<◌, ◌≤◌, length, get_or, eqb, ltb}
use Rattle.lists.specs.Lists.{count_if}
use Rattle.join_definition.specs.Join.{joined, first_index}
use Rattle.edge_uses.specs.Edges.{Use, uses_of, first_uses}
use Rattle.edge_uses.specs.Named.{use_name, use_run}
use Rattle.edge_uses.specs.UseLaws.{no_use, Apart}
use Rattle.mesh_tally.specs.declared.EdgeCounts.{EdgeCounts}
use Rattle.mesh_counts.specs.Counts.{Counts}

-- the counts that an answer holds
abbrev pub counts_in : EdgeCounts → Counts
counts_in c = record { edges = c.edges; opens = c.opens; overs = c.overs }

-- the counts with one edge more, which has so many uses
unfoldable pub with_edge : ℕ → Counts → Counts
with_edge uses c = record { edges = c.edges + 1; opens = c.opens + cond (eqb uses 1) 1 0; overs = c.overs + cond (ltb 2 uses) 1 0 }

-- the counts after use i, of which an edge counts if its ends differ and it is its own first use: first uses of n uses stand from `at` on,
-- counts and runs behind them
unfoldable pub with_use : List ℕ → ℕ → ℕ → ℕ → Counts → Counts
with_use W at n i c = cond (eqb (get_or W (at + 2 * n + i) 0) 2) c (cond (eqb (get_or W (at + i) 0) i) (with_edge (get_or W (at + n + i) 0) c) c)

-- counts that have not reached 01's limit on indices
pub record Few (c : EdgeCounts) : Type 0 where
  pub edges : c.edges < 786432
  pub opens : c.opens < 786432
  pub overs : c.overs < 786432

-- what the counts after use i ask: its words stand in the work area
pub record UseReady (W : List ℕ) (at n i : ℕ) (c : EdgeCounts) : Type 0 where
  pub inside : i < n
  pub room : at + 3 * n ≤ length W
  pub few : Few c

-- what the counts over n uses ask
pub record TallyReady (W : List ℕ) (at n : ℕ) : Type 0 where
  pub few : n ≤ 786432
  pub room : at + 3 * n ≤ length W

-- the words of uses: the first use of each, at each first use how many uses its edge has, and the way each runs
pub record UseWords (us : List Use) (W : List ℕ) (at n : ℕ) : Type 0 where
  pub many : length us ≡ n
  pub apart : Apart (λ s. s) us
  pub first : (i : ℕ) → i < n → get_or W (at + i) 0 ≡ first_index (map use_name us) i
  pub count : (i : ℕ) → i < n → get_or W (at + n + i) 0 ≡ count_if (eqb i) (joined (map use_name us))
  pub run : (i : ℕ) → i < n → get_or W (at + 2 * n + i) 0 ≡ use_run (get_or us i no_use)

-- the counts over uses
pub record CountsOver (us : List Use) (c : EdgeCounts) : Type 0 where
  pub edges : c.edges ≡ length (first_uses [] us)
  pub opens : c.opens ≡ count_if (λ u. eqb (uses_of us u) 1) (first_uses [] us)
  pub overs : c.overs ≡ count_if (λ u. ltb 2 (uses_of us u)) (first_uses [] us)

-- what the tally ensures: whatever uses the words are of, it has their counts
pub record Tallied (W : List ℕ) (at n : ℕ) (r : EdgeCounts) : Type 0 where
  pub counts : (us : List Use) → UseWords us W at n → CountsOver us r
