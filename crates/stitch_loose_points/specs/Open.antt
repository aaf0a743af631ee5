-- Open edges in the work area: a flag for each use. Assumes nothing.
use Rattle.std.specs.Prelude.{◌≡◌, cond, List, [], map, ℕ, ◌+◌, ◌*◌, ◌<◌, ◌≤◌, length, get_or, take, drop, replicate, eqb, Float}
use Rattle.point_rules.specs.Rule.{names}
use Rattle.point_rules.specs.Points.{key}
use Rattle.join_definition.specs.Join.{joined}
use Rattle.body_rows.specs.Body.{rows_of, patches_of}
use Rattle.edge_uses.specs.Edges.{Use, uses_from, is_open}
use Rattle.edge_uses.specs.Named.{use_name, use_run}
use Rattle.edge_uses.specs.FirstUsers.{uses_in}
use Rattle.edge_uses.specs.Area.{uses_end}
use Rattle.lists.specs.Lists.{count_if}

-- where the flags of n uses stand: behind their names, first uses and counts
abbrev pub flags_at : ℕ → ℕ → ℕ → ℕ
flags_at v m n = 4 * v + 4 * m + 3 * n

-- the uses of a body over the whole of it, shells ignored, its points joined by key
abbrev pub body_uses : List ℕ → List Float → List ℕ → List Use
body_uses table ps is = uses_from (λ r. 0) 0 (joined (names key ps)) (patches_of (rows_of table) ps [] is)

-- 1 for an open use, 0 for any other
abbrev pub flag_of : List Use → Use → ℕ
flag_of all u = cond (is_open all u) 1 0

-- what marking the open edges leaves: the names of the vertices in front, behind them the first vertex of each one's point,
-- a flag for each use, and all behind the flags as it was
pub record Marked (table : List ℕ) (ps : List Float) (is : List ℕ) (v m : ℕ) (W E : List ℕ) : Type 0 where
  pub points : take v (drop v E) ≡ joined (names key ps)
  pub names : take v E ≡ names key ps
  pub flags : take (length is) (drop (flags_at v m (length is)) E) ≡ map (flag_of (body_uses table ps is)) (body_uses table ps is)
  pub rest : drop (uses_end v m (length is)) E ≡ drop (uses_end v m (length is)) W

-- ---- points and shells

-- what joining the vertices asks, with one shell for all rows
pub record Joinable (ps : List Float) (v m : ℕ) (W : List ℕ) : Type 0 where
  pub all : length ps ≡ 3 * v
  pub few : v ≤ 262144
  pub room : 4 * v + m ≤ length W

-- what it leaves: the names of the vertices, the first vertex of each point, shell 0 for each row, and all behind these as it was
pub record BodyJoined (ps : List Float) (v m : ℕ) (W E : List ℕ) : Type 0 where
  pub words : take v E ≡ names key ps
  pub points : take v (drop v E) ≡ joined (names key ps)
  pub shells : take m (drop (4 * v) E) ≡ replicate m 0
  pub rest : drop (4 * v + m) E ≡ drop (4 * v + m) W

-- ---- uses

-- what counting the uses leaves: behind their names their first uses, at each first use how many uses its edge has, and the uses' runs
pub record UsesCounted (table is W : List ℕ) (points shells at : ℕ) (E : List ℕ) : Type 0 where
  pub firsts : take (length is) (drop (at + length is) E) ≡ joined (map use_name (uses_in table is W points shells))
  pub count : (j : ℕ) → j < length is → get_or E (at + 2 * length is + j) 0 ≡ count_if (eqb j) (joined (map use_name (uses_in table is W points shells)))
  pub runs : take (length is) (drop (at + 3 * length is) E) ≡ map use_run (uses_in table is W points shells)
  pub front : take at E ≡ take at W
  pub rest : drop (at + 4 * length is) E ≡ drop (at + 4 * length is) W

-- ---- flags

-- 1 for a use that does not run between equal ends and whose edge has one use, else 0
unfoldable pub flag_by : ℕ → ℕ → ℕ
flag_by run count = cond (eqb run 2) 0 (cond (eqb count 1) 1 0)

-- how many uses the edge of use i has: first uses of n uses stand from `at` on, the counts behind them
abbrev pub count_in : List ℕ → ℕ → ℕ → ℕ → ℕ
count_in W at n i = get_or W (at + n + get_or W (at + i) 0) 0

-- the flag of use i, with the runs behind the counts
abbrev pub flag_in : List ℕ → ℕ → ℕ → ℕ → ℕ
flag_in W at n i = flag_by (get_or W (at + 2 * n + i) 0) (count_in W at n i)

-- what the flag of use i asks: its first use is one of the n uses
pub record FlagReady (W : List ℕ) (at n i : ℕ) : Type 0 where
  pub inside : i < n
  pub room : at + 3 * n ≤ length W
  pub low : get_or W (at + i) 0 < n

-- what the flags of n uses ask
pub record FlagsReady (W : List ℕ) (at n : ℕ) : Type 0 where
  pub room : at + 3 * n ≤ length W
  pub low : (i : ℕ) → i < n → get_or W (at + i) 0 < n

-- what setting them leaves: each in place of its use's run; nothing else was written
pub record FlagsSet (W : List ℕ) (at n : ℕ) (E : List ℕ) : Type 0 where
  pub flags : (i : ℕ) → i < n → get_or E (at + 2 * n + i) 0 ≡ flag_in W at n i
  pub front : take (at + 2 * n) E ≡ take (at + 2 * n) W
  pub rest : drop (at + 3 * n) E ≡ drop (at + 3 * n) W
