-- The marks of uses that stand in the work area, counted at the first rows of the face numbers. Assumes nothing.
--
-- Of n uses the first uses stand from `firsts` on, then their rows, then their runs; of each row the first row of its face number stands from `heads` on.
use Rattle.std.specs.Prelude.{◌≡◌, Bool, false, cond, List, [], ◌∷◌, ◌++◌, ℕ, zero, suc, ◌+◌, ◌*◌, ◌≤◌, ◌<◌, length, get_or, set, take, drop, eqb}
use Rattle.lists.specs.Lists.{count_if}

-- the first use of use i's edge
abbrev pub first_at : List ℕ → ℕ → ℕ → ℕ
first_at W firsts i = get_or W (firsts + i) 0

-- its row
abbrev pub own_at : List ℕ → ℕ → ℕ → ℕ → ℕ
own_at W firsts n i = get_or W (firsts + n + i) 0

-- which way it runs
abbrev pub run_at : List ℕ → ℕ → ℕ → ℕ → ℕ
run_at W firsts n i = get_or W (firsts + 2 * n + i) 0

-- use i, whose edge's first use is `first`, is another use, has different ends and runs as that one does
unfoldable pub alike : ℕ → ℕ → ℕ → ℕ → Bool
alike first i run firstRun = cond (eqb first i) false (cond (eqb run 2) false (eqb firstRun run))

-- so read in the work area
abbrev pub alike_at : List ℕ → ℕ → ℕ → ℕ → Bool
alike_at W firsts n i = alike (first_at W firsts i) i (run_at W firsts n i) (run_at W firsts n (first_at W firsts i))

-- 1 is added to the count at the first row of a row's face number
abbrev pub added : List ℕ → ℕ → ℕ → ℕ → List ℕ
added W heads counts row = set W (counts + get_or W (heads + row) 0) (get_or W (counts + get_or W (heads + row) 0) 0 + 1)

-- what marking use i leaves: 1 for its row and 1 for the first use's, if the two run alike
unfoldable pub marked_at : List ℕ → ℕ → ℕ → ℕ → ℕ → ℕ → List ℕ
marked_at W firsts n i heads counts =
    cond (alike_at W firsts n i) (added (added W heads counts (own_at W firsts n i)) heads counts (own_at W firsts n (first_at W firsts i))) W

-- the first rows of the face numbers that use i marks
unfoldable pub heads_at : List ℕ → ℕ → ℕ → ℕ → ℕ → List ℕ
heads_at W firsts n heads i =
    cond (alike_at W firsts n i) (get_or W (heads + own_at W firsts n i) 0 ∷ get_or W (heads + own_at W firsts n (first_at W firsts i)) 0 ∷ []) []

-- those that the uses before use i mark, in turn
unfoldable pub heads_before : List ℕ → ℕ → ℕ → ℕ → ℕ → List ℕ
heads_before W firsts n heads zero = []
heads_before W firsts n heads (suc i) = heads_before W firsts n heads i ++ heads_at W firsts n heads i

-- what looking at use i asks
pub record UseReady (W : List ℕ) (firsts n i : ℕ) : Type 0 where
  pub inside : i < n
  pub room : firsts + 3 * n ≤ length W
  pub low : first_at W firsts i < n

-- what marking it asks: rows and first rows that are rows, and counts that can grow by 2
pub record MarkReady (W : List ℕ) (firsts n i heads counts : ℕ) : Type 0 where
  pub use_ready : UseReady W firsts n i
  pub m : ℕ
  pub own_low : own_at W firsts n i < m
  pub far_low : own_at W firsts n (first_at W firsts i) < m
  pub apart : heads + m ≤ counts
  pub room : counts + m ≤ length W
  pub low : (k : ℕ) → k < m → get_or W (heads + k) 0 < m
  pub small : (j : ℕ) → j < m → get_or W (counts + j) 0 + 1 < length W

-- what counting the marks of n uses on m rows asks
pub record CountsReady (W : List ℕ) (firsts n heads counts m : ℕ) : Type 0 where
  pub uses_apart : firsts + 3 * n ≤ heads
  pub apart : heads + m ≤ counts
  pub room : counts + m ≤ length W
  pub enough : 2 * n ≤ length W
  pub firsts_low : (i : ℕ) → i < n → first_at W firsts i < n
  pub rows_low : (i : ℕ) → i < n → own_at W firsts n i < m
  pub low : (k : ℕ) → k < m → get_or W (heads + k) 0 < m

-- what it leaves: at each row how often it was marked as a first row; nothing else was written
pub record MarksCounted (W : List ℕ) (firsts n heads counts m : ℕ) (E : List ℕ) : Type 0 where
  pub count : (j : ℕ) → j < m → get_or E (counts + j) 0 ≡ count_if (eqb j) (heads_before W firsts n heads n)
  pub front : take counts E ≡ take counts W
  pub rest : drop (counts + m) E ≡ drop (counts + m) W
  pub long : length E ≡ length W
