-- The work area of n uses and m rows: where each region stands, and the uses that stand there. Assumes nothing.
--
-- first at 0, row at n, run at 2n, own links at 3n, far links at 4n, of n words each; then heads, queue and colours, of m words each.
-- A link is 0 or 1 + a use: from a head, from the own link of a use at the use's row, or from its far link at the first use's row.
use Rattle.std.specs.Prelude.{◌≡◌, List, ℕ, ◌+◌, ◌*◌, ◌<◌, get_or, take, drop}
use Rattle.turn_walk.specs.Uses.{Uses, own}

-- where the rows of the uses stand
abbrev pub rows_at : ℕ → ℕ
rows_at n = n

-- where their runs stand
abbrev pub runs_at : ℕ → ℕ
runs_at n = 2 * n

-- where the links stand that lead on at a use's own row
abbrev pub own_links_at : ℕ → ℕ
own_links_at n = 3 * n

-- where those stand that lead on at the first use's row
abbrev pub far_links_at : ℕ → ℕ
far_links_at n = 4 * n

-- where each row's link to its first pair stands
abbrev pub heads_at : ℕ → ℕ
heads_at n = 5 * n

-- where the rows that a walk has found stand
abbrev pub queue_at : ℕ → ℕ → ℕ
queue_at n m = 5 * n + m

-- where the colours stand
abbrev pub colours_at : ℕ → ℕ → ℕ
colours_at n m = 5 * n + 2 * m

-- where the last region ends
abbrev pub area_end : ℕ → ℕ → ℕ
area_end n m = 5 * n + 3 * m

-- W became E, and only the words from a up to b were written
pub record WrittenBetween (a b : ℕ) (W E : List ℕ) : Type 0 where
  pub front : take a E ≡ take a W
  pub rest : drop b E ≡ drop b W

-- the uses that stand in the work area
abbrev pub uses_of : ℕ → List ℕ → Uses
uses_of n W = record { count = n; first = take n W; row = take n (drop (rows_at n) W); run = take n (drop (runs_at n) W) }

-- every first use is a use, and every row is a row
pub record Sound (n m : ℕ) (W : List ℕ) : Type 0 where
  pub firsts : (i : ℕ) → i < n → get_or (uses_of n W).first i 0 < n
  pub rows : (i : ℕ) → i < n → own (uses_of n W) i < m
