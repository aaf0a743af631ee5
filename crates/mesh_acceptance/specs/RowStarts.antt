-- Where a row's vertices and indices start, row after row. Assumes nothing.
use Rattle.std.specs.Prelude.{◌≡◌, refl, List, ℕ, ◌+◌, ◌≤◌, ◌<◌, length}
use Rattle.std.proofs.Common.{arith}
use Rattle.lists.specs.Lists.{sum_of}
use Rattle.body_rows.specs.Body.{rows_of, all_vertices, all_indices}
use Rattle.body_rows.specs.Rows.{row_at, vertices_before, indices_before}
use Rattle.body_rows.specs.Patches.{vertices_next, indices_next, vertices_room, indices_room}

-- where row k's vertices and indices start
pub record AtRow (table : List ℕ) (base i k : ℕ) : Type 0 where
  pub low : k ≤ length (rows_of table)
  pub at_v : base ≡ vertices_before (rows_of table) k
  pub at_i : i ≡ indices_before (rows_of table) k

-- the first row starts at 0
pub at_first : (table : List ℕ) → AtRow table 0 0 0
unfolding vertices_before indices_before all_vertices all_indices sum_of
at_first table = record { low = omega arith; at_v = refl; at_i = refl }

-- the next starts where it ends
pub at_next : {table : List ℕ} {base i k vertices indices : ℕ} → AtRow table base i k → k < length (rows_of table) → vertices ≡ (row_at table k).vertices → indices ≡ (row_at table k).indices
    → AtRow table (base + vertices) (i + indices) (k + 1)
at_next {table} {base} {i} {k} a l v n =
    record {
      low = omega arith;
      at_v = omega (arith, a.at_v, vertices_next table k l);
      at_i = omega (arith, a.at_i, indices_next table k l);
    }

-- a row's vertices end within all
pub vertices_in : {table : List ℕ} {base i k : ℕ} → AtRow table base i k → k < length (rows_of table) → base + (row_at table k).vertices ≤ all_vertices (rows_of table)
unfolding row_at
vertices_in {table} {base} {i} {k} a l = omega (arith, a.at_v, vertices_room (rows_of table) k l)

-- so do its indices
pub indices_in : {table : List ℕ} {base i k : ℕ} → AtRow table base i k → k < length (rows_of table) → i + (row_at table k).indices ≤ all_indices (rows_of table)
unfolding row_at
indices_in {table} {base} {i} {k} a l = omega (arith, a.at_i, indices_room (rows_of table) k l)
