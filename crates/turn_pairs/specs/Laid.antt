-- The uses of a body laid out in the work area as the walk wants them. Assumes nothing.
--
-- Where edge_uses/specs/Area.antt leaves the words open: the table that joins the rows by shell stands behind the vertices', and the uses' rows and runs
-- behind their first uses.
use Rattle.std.specs.Prelude.{◌≡◌, List, [], map, ℕ, ◌+◌, ◌*◌, ◌≤◌, length, take, drop, Float}
use Rattle.point_rules.specs.Rule.{names}
use Rattle.point_rules.specs.Points.{key}
use Rattle.join_definition.specs.Join.{joined}
use Rattle.body_rows.specs.Body.{Row, rows_of, patches_of}
use Rattle.body_rows.specs.Rows.{WholeRows}
use Rattle.edge_uses.specs.Edges.{Use, uses_from}
use Rattle.edge_uses.specs.Area.{names_at, uses_end}
use Rattle.turn_walk.specs.Uses.{pairs_by}
use Rattle.turn_walk.specs.Area.{uses_of, Sound}
use Rattle.turn_definition.specs.Pairs.{pairs_of}

-- where the rows are joined by shell
abbrev pub shells_at : ℕ → ℕ
shells_at v = 4 * v

-- where the uses stand as the walk wants them: first uses, rows and runs
abbrev pub uses_at : ℕ → ℕ → ℕ → ℕ
uses_at v m n = 4 * v + 4 * m + n

-- the shell number of each row
abbrev pub shells_of : List Row → List ℕ
shells_of rows = map (λ r. r.shell) rows

-- ---- shells

-- what listing the shell numbers asks: a word for each row from `at` on
pub record ShellsRoom (table W : List ℕ) (at : ℕ) : Type 0 where
  pub rows : WholeRows table
  pub room : at + length (rows_of table) ≤ length W

-- what it leaves: nothing else was written
pub record ShellsListed (table : List ℕ) (at : ℕ) (W E : List ℕ) : Type 0 where
  pub shells : take (length (rows_of table)) (drop at E) ≡ shells_of (rows_of table)
  pub front : take at E ≡ take at W
  pub rest : drop (at + length (rows_of table)) E ≡ drop (at + length (rows_of table)) W

-- what joining the rows by shell asks: room for their table from `at` on
pub record ShellsReady (table W : List ℕ) (at : ℕ) : Type 0 where
  pub rows : WholeRows table
  pub room : at + 4 * length (rows_of table) ≤ length W

-- what it leaves: behind the shell numbers the first row of each row's shell, and all outside the table as it was
pub record ShellsJoined (table : List ℕ) (at : ℕ) (W E : List ℕ) : Type 0 where
  pub firsts : take (length (rows_of table)) (drop (at + length (rows_of table)) E) ≡ joined (shells_of (rows_of table))
  pub front : take at E ≡ take at W
  pub rest : drop (at + 4 * length (rows_of table)) E ≡ drop (at + 4 * length (rows_of table)) W

-- ---- points and shells

-- what joining vertices and shells asks
pub record Joinable (table : List ℕ) (ps : List Float) (v m : ℕ) (W : List ℕ) : Type 0 where
  pub rows : WholeRows table
  pub count : length (rows_of table) ≡ m
  pub all : length ps ≡ 3 * v
  pub few : v ≤ 262144
  pub room : names_at v m ≤ length W

-- what it leaves: the first vertex of each point, the first row of each shell, and all behind the two tables as it was
pub record BodyJoined (table : List ℕ) (ps : List Float) (v m : ℕ) (W E : List ℕ) : Type 0 where
  pub points : take v (drop v E) ≡ joined (names key ps)
  pub shells : take m (drop (shells_at v + m) E) ≡ joined (shells_of (rows_of table))
  pub rest : drop (names_at v m) E ≡ drop (names_at v m) W

-- ---- uses

-- the uses of a body whose points are joined by key, as 01 has them: edges of different shells are different
abbrev pub key_uses : List ℕ → List Float → List ℕ → List Use
key_uses table ps is = uses_from (λ r. r.shell) 0 (joined (names key ps)) (patches_of (rows_of table) ps [] is)

-- what laying the uses out leaves: their pairs are the definition's, and all behind them is as it was
pub record Laid (table : List ℕ) (ps : List Float) (is : List ℕ) (v m : ℕ) (W E : List ℕ) : Type 0 where
  pub pairs : pairs_by (uses_of (length is) (drop (uses_at v m (length is)) E)) ≡ pairs_of (key_uses table ps is)
  pub sound : Sound (length is) m (drop (uses_at v m (length is)) E)
  pub rest : drop (uses_end v m (length is)) E ≡ drop (uses_end v m (length is)) W
