-- The first user of each use's edge, found by joining the uses' names. Assumes nothing.
use Rattle.std.specs.Prelude.{◌≡◌, List, map, ℕ, ◌+◌, ◌*◌, ◌≤◌, length, take, drop}
use Rattle.body_rows.specs.Body.{rows_of, all_indices}
use Rattle.join_definition.specs.Join.{joined}
use Rattle.edge_uses.specs.Edges.{Use}
use Rattle.edge_uses.specs.Named.{use_name, row_uses, NamesReady}

-- what finding the first users asks: what naming asks, and room for the table of the n uses
pub record UsersReady (table is W : List ℕ) (points shells at : ℕ) : Type 0 where
  pub names : NamesReady table is W points shells at
  pub all : length is ≡ all_indices (rows_of table)
  pub few : all_indices (rows_of table) ≤ 786432
  pub room : at + 4 * length is ≤ length W

-- the uses that stand in the work area W: shells' numbers from `shells` on, points from `points` on
abbrev pub uses_in : List ℕ → List ℕ → List ℕ → ℕ → ℕ → List Use
uses_in table is W points shells = row_uses (drop shells W) 0 (drop points W) (rows_of table) is

-- what it leaves: the names of the n uses at `at`, their first users behind them, and all outside the table's words as it was
pub record FirstUsers (table is W : List ℕ) (points shells at : ℕ) (E : List ℕ) : Type 0 where
  pub names : take (length is) (drop at E) ≡ map use_name (uses_in table is W points shells)
  pub firsts : take (length is) (drop (at + length is) E) ≡ joined (map use_name (uses_in table is W points shells))
  pub front : take at E ≡ take at W
  pub rest : drop (at + 4 * length is) E ≡ drop (at + 4 * length is) W
