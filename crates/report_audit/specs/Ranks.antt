-- The face numbers with a count above 0, ranked in the work area. Assumes nothing.
--
-- From `at` on, for m rows: face numbers at 0, the first rows of the face numbers at m, counts at 4m, ranks at 5m, order at 7m, entries at 9m, of m words each;
-- the m words behind ranks and behind order are taken to sort them.
use Rattle.std.specs.Prelude.{◌≡◌, cond, List, map, ℕ, ◌+◌, ◌-◌, ◌*◌, ◌/◌, ◌%◌, ◌≤◌, ◌<◌, length, get_or, take, drop, eqb}
use Rattle.lists.specs.Lists.{count_if}
use Rattle.slice_sort.specs.Sorting.{Stands}
use Rattle.join_definition.specs.Join.{joined, first_index}
use Rattle.report_definition.specs.Audit.{Entry, entries_of}

-- ---- words

-- a row and its face number in one word, which ranks rows by face number
abbrev pub rank_word : List ℕ → ℕ → ℕ → ℕ
rank_word W at k = get_or W (at + k) 0 * 4096 + k

-- a rank and its count in one word, which orders ranks by count, the highest first
abbrev pub order_word : ℕ → ℕ → ℕ
order_word c i = (1572864 - c) * 4096 + i

-- an entry in one word: its count above its face number
abbrev pub entry_word : Entry → ℕ
entry_word e = e.count * 4294967296 + e.face

-- the row of rank i
abbrev pub row_of : List ℕ → ℕ → ℕ → ℕ → ℕ
row_of W at m i = get_or W (at + 5 * m + i) 0 % 4096

-- the count of the row of rank i, if it is the first of its face number; else 0
unfoldable pub count_at : List ℕ → ℕ → ℕ → ℕ → ℕ
count_at W at m i = cond (eqb (get_or W (at + 1 * m + row_of W at m i) 0) (row_of W at m i)) (get_or W (at + 4 * m + row_of W at m i) 0) 0

-- the entry of the rank at place k of the order
abbrev pub entry_at : List ℕ → ℕ → ℕ → ℕ → ℕ
entry_at W at m k = (1572864 - get_or W (at + 7 * m + k) 0 / 4096) * 4294967296 + get_or W (at + 5 * m + get_or W (at + 7 * m + k) 0 % 4096) 0 / 4096

-- ---- rows ranked by face number

-- a face number of 32 bits, and a row
pub record WordSmall (face row : ℕ) : Type 0 where
  pub face_low : face < 4294967296
  pub row_low : row < 4096

-- what ranking the rows asks: few rows, face numbers of 32 bits, and room
pub record RanksReady (W : List ℕ) (at m : ℕ) : Type 0 where
  pub few : m ≤ 4096
  pub small : (k : ℕ) → k < m → get_or W (at + k) 0 < 4294967296
  pub room : at + 10 * m ≤ length W

-- what listing their words leaves
pub record RanksListed (W : List ℕ) (at m : ℕ) (E : List ℕ) : Type 0 where
  pub words : (k : ℕ) → k < m → get_or E (at + 5 * m + k) 0 ≡ rank_word W at k
  pub front : take (at + 5 * m) E ≡ take (at + 5 * m) W
  pub rest : drop (at + 6 * m) E ≡ drop (at + 6 * m) W
  pub long : length E ≡ length W

-- the word of rank i is that of a row
pub record RankRow (W : List ℕ) (at m : ℕ) (E : List ℕ) (i : ℕ) : Type 0 where
  pub row : ℕ
  pub low : row < m
  pub is : get_or E (at + 5 * m + i) 0 ≡ rank_word W at row

-- what ranking the rows leaves: their words, rising
pub record RowsRanked (W : List ℕ) (at m : ℕ) (E : List ℕ) : Type 0 where
  pub rising : (i j : ℕ) → i < j → j < m → get_or E (at + 5 * m + i) 0 < get_or E (at + 5 * m + j) 0
  pub stands : (k : ℕ) → k < m → Stands E (at + 5 * m) m (rank_word W at k)
  pub rows : (i : ℕ) → i < m → RankRow W at m E i
  pub front : take (at + 5 * m) E ≡ take (at + 5 * m) W
  pub rest : drop (at + 7 * m) E ≡ drop (at + 7 * m) W
  pub long : length E ≡ length W

-- ---- ranks with a count above 0 gathered

-- what looking up the count of rank i asks
pub record CountReady (W : List ℕ) (at m i : ℕ) : Type 0 where
  pub inside : i < m
  pub low : row_of W at m i < m
  pub room : at + 10 * m ≤ length W

-- what gathering asks: ranks of rows, and counts that are not too high
pub record GatherReady (W : List ℕ) (at m : ℕ) : Type 0 where
  pub few : m ≤ 4096
  pub low : (i : ℕ) → i < m → row_of W at m i < m
  pub small : (j : ℕ) → j < m → get_or W (at + 4 * m + j) 0 ≤ 1572864
  pub room : at + 10 * m ≤ length W

-- the word at place q is of a rank before rank i with a count above 0
pub record GatheredRank (W : List ℕ) (at m i : ℕ) (E : List ℕ) (q : ℕ) : Type 0 where
  pub rank : ℕ
  pub low : rank < i
  pub above : 0 < count_at W at m rank
  pub is : get_or E (at + 7 * m + q) 0 ≡ order_word (count_at W at m rank) rank

-- what it leaves: the words of the r ranks with a count above 0, in the order of the ranks
pub record Gathered (W : List ℕ) (at m r : ℕ) (E : List ℕ) : Type 0 where
  pub few : r ≤ m
  pub each : (q : ℕ) → q < r → GatheredRank W at m m E q
  pub rising : (p q : ℕ) → p < q → q < r → get_or E (at + 7 * m + p) 0 % 4096 < get_or E (at + 7 * m + q) 0 % 4096
  pub every : (i : ℕ) → i < m → 0 < count_at W at m i → Stands E (at + 7 * m) r (order_word (count_at W at m i) i)
  pub front : take (at + 7 * m) E ≡ take (at + 7 * m) W
  pub rest : drop (at + 8 * m) E ≡ drop (at + 8 * m) W
  pub long : length E ≡ length W

-- ---- entries

-- what making the entry at place k asks
pub record EntryReady (W : List ℕ) (at m k : ℕ) : Type 0 where
  pub inside : k < m
  pub low : get_or W (at + 7 * m + k) 0 % 4096 < m
  pub count : get_or W (at + 7 * m + k) 0 / 4096 ≤ 1572864
  pub face : get_or W (at + 5 * m + get_or W (at + 7 * m + k) 0 % 4096) 0 / 4096 < 4294967296
  pub room : at + 10 * m ≤ length W

-- what writing r entries asks
pub record EntriesReady (W : List ℕ) (at m r : ℕ) : Type 0 where
  pub few : r ≤ m
  pub each : (k : ℕ) → k < r → EntryReady W at m k
  pub room : at + 10 * m ≤ length W

-- what it leaves
pub record EntriesWritten (W : List ℕ) (at m r : ℕ) (E : List ℕ) : Type 0 where
  pub words : (k : ℕ) → k < r → get_or E (at + 9 * m + k) 0 ≡ entry_at W at m k
  pub rest : drop (at + 10 * m) E ≡ drop (at + 10 * m) W
  pub long : length E ≡ length W

-- ---- all of it

-- what ranking the counts of m rows asks: few rows, face numbers of 32 bits, counts that are not too high, and room
pub record RankReady (W : List ℕ) (at m : ℕ) : Type 0 where
  pub few : m ≤ 4096
  pub faces : (k : ℕ) → k < m → get_or W (at + k) 0 < 4294967296
  pub small : (j : ℕ) → j < m → get_or W (at + 4 * m + j) 0 ≤ 1572864
  pub room : at + 10 * m ≤ length W

-- the face numbers stand at `at`, the first row of each behind them, and at each first row how often some marks mark its number
pub record CountsStand (W : List ℕ) (at m : ℕ) (faces marks : List ℕ) : Type 0 where
  pub many : length faces ≡ m
  pub faces_are : take m (drop at W) ≡ faces
  pub heads_are : take m (drop (at + m) W) ≡ joined faces
  pub count : (j : ℕ) → j < m → get_or W (at + 4 * m + first_index faces j) 0 ≡ count_if (eqb (get_or faces j 0)) marks

-- what it leaves: where face numbers and counts of marks stood, their entries as words
pub record Ranked (W : List ℕ) (at m r : ℕ) (E : List ℕ) : Type 0 where
  pub words : (faces marks : List ℕ) → CountsStand W at m faces marks → take r (drop (at + 9 * m) E) ≡ map entry_word (entries_of faces marks)
  pub few : r ≤ m
  pub rest : drop (at + 10 * m) E ≡ drop (at + 10 * m) W
  pub long : length E ≡ length W
