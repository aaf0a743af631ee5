-- What a pair appended in the work area asks and leaves, and what dropping close ones leaves, of sorted pairs and of any. Assumes nothing.
use Rattle.std.specs.Prelude.{◌≡◌, List, [], ◌∷◌, ◌++◌, map, ℕ, ◌+◌, ◌≤◌, ◌<◌, length, take, drop, Float}
use Rattle.slice_pairs.specs.Pairs.{pair_of, pairs_in}
use Rattle.float_steps.specs.Floats.{bits64}
use Rattle.stitch_splits.specs.Entries.{entries_in, kept_entries}
use Rattle.stitch_pairs.specs.FoundPairs.{place_key, entry_of_pair}
use Rattle.stitch_pairs.specs.Inserted.{insert_numbers}

-- what appending a pair asks: room for one more in both stretches, of which the higher words' is the second, and an edge and a parameter that fit one word
pub record PairRoom (at ts count e : ℕ) (t : Float) (W : List ℕ) : Type 0 where
  pub apart : at + count < ts
  pub room : ts + count < length W
  pub edge : e ≤ 2
  pub bits : bits64 t < 4611686018427387904

-- what it leaves: the pair behind the others; nothing in front of the pairs and behind them was written
pub record PairAppended (at ts count e : ℕ) (t : Float) (x : ℕ) (W E : List ℕ) : Type 0 where
  pub pairs : pairs_in E at ts (count + 1) ≡ pairs_in W at ts count ++ pair_of (place_key e t) x ∷ []
  pub front : take at E ≡ take at W
  pub rest : drop (ts + count + 1) E ≡ drop (ts + count + 1) W

-- what dropping close ones leaves: the entries kept of the pairs, r of them; nothing in front of the pairs and behind them was written
pub record KeptOfPairs (at ts count : ℕ) (W E : List ℕ) (r : ℕ) : Type 0 where
  pub entries : entries_in E at ts r ≡ kept_entries (map entry_of_pair (pairs_in W at ts count))
  pub few : r ≤ count
  pub front : take at E ≡ take at W
  pub rest : drop (ts + count) E ≡ drop (ts + count) W

-- what keeping those of pairs in any order leaves: the entries kept of the pairs in rising order, r of them; nothing else was written
pub record KeptInOrder (at ts count : ℕ) (W E : List ℕ) (r : ℕ) : Type 0 where
  pub entries : entries_in E at ts r ≡ kept_entries (map entry_of_pair (insert_numbers [] (pairs_in W at ts count)))
  pub few : r ≤ count
  pub front : take at E ≡ take at W
  pub rest : drop (ts + count) E ≡ drop (ts + count) W
