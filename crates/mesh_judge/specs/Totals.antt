-- What adding up the accepted rows asks and leaves. Assumes nothing.
use Rattle.std.specs.Prelude.{◌≡◌, List, ℕ, zero, suc, ◌+◌, ◌≤◌, ◌<◌, length}
use Rattle.body_rows.specs.Body.{Row, rows_of, all_vertices, all_indices}
use Rattle.body_rows.specs.Rows.{WholeRows}
use Rattle.mesh_judge.specs.declared.totals.Totals.{Totals}
use Rattle.mesh_acceptance.specs.Judged.{accepted_rows, decisions_in}

-- the totals with a row more, if its decision isn't 0
unfoldable pub totals_with : ℕ → Row → Totals → Totals
totals_with zero r t = t
totals_with (suc m) r t = record { rows = t.rows + 1; vertices = t.vertices + r.vertices; indices = t.indices + r.indices }

-- what adding row k asks: its decision is there, and the totals are within the limits
pub record RowAddable (table W : List ℕ) (at k : ℕ) (t : Totals) : Type 0 where
  pub row : k < length (rows_of table)
  pub word : at + k < length W
  pub few_rows : t.rows ≤ 4096
  pub few_vertices : t.vertices ≤ 262144
  pub few_indices : t.indices ≤ 786432

-- what adding up asks: the decisions are there, and the body is within the limits
pub record TotalsReady (table W : List ℕ) (at : ℕ) : Type 0 where
  pub rows : WholeRows table
  pub room : at + length (rows_of table) ≤ length W
  pub few_vertices : all_vertices (rows_of table) ≤ 262144
  pub few_indices : all_indices (rows_of table) ≤ 786432

-- what the accepted rows have together
pub record Totalled (table W : List ℕ) (at : ℕ) (t : Totals) : Type 0 where
  pub rows_are : t.rows ≡ length (accepted_rows (decisions_in table W at) (rows_of table))
  pub vertices_are : t.vertices ≡ all_vertices (accepted_rows (decisions_in table W at) (rows_of table))
  pub indices_are : t.indices ≡ all_indices (accepted_rows (decisions_in table W at) (rows_of table))
