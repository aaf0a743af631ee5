-- The entry of a pair by its two words, and the work area with it written. Assumes nothing.
use Rattle.std.specs.Prelude.{Bool, false, List, ℕ, zero, suc, ◌+◌, ◌*◌, ◌/◌, ◌%◌, ◌≤◌, ◌<◌, length, get_or, set}
use Rattle.float_steps.specs.Floats.{f64}
use Rattle.stitch_splits.specs.Entries.{Entry, close_to, entry_at}

-- the entry of a pair: edge and parameter in the higher word x, the vertex in the lower word y
abbrev pub entry_of_words : ℕ → ℕ → Entry
entry_of_words x y = record { e = x / 4611686018427387904; t = f64 (x % 4611686018427387904); vertex = y % 262144 }

-- the entry of the pair at place j
abbrev pub pair_entry_at : List ℕ → ℕ → ℕ → ℕ → Entry
pair_entry_at W at ts j = entry_of_words (get_or W (ts + j) 0) (get_or W (at + j) 0)

-- the words with the entry of the pair at place j written to place k
abbrev pub entry_written : List ℕ → ℕ → ℕ → ℕ → ℕ → List ℕ
entry_written W at ts j k =
    set (set W (at + k) (get_or W (ts + j) 0 / 4611686018427387904 * 262144 + get_or W (at + j) 0 % 262144)) (ts + k) (get_or W (ts + j) 0 % 4611686018427387904)

-- whether the pairs of two higher words are on one edge and closer than 1e-9
abbrev pub close_keys : ℕ → ℕ → Bool
close_keys x y = close_to (entry_of_words x 0) (entry_of_words y 0)

-- whether an entry is close to the last of those kept: to none if none is
unfoldable pub close_to_last : List ℕ → ℕ → ℕ → ℕ → Entry → Bool
close_to_last W at ts zero y = false
close_to_last W at ts (suc k) y = close_to (entry_at W at ts k) y

-- what comparing the pair at place j with the last of the entries kept asks: it stands behind them
pub record PairPlace (at ts j kept : ℕ) (W : List ℕ) : Type 0 where
  pub behind : kept ≤ j
  pub lower : at + j < length W
  pub higher : ts + j < length W
