-- The patch of a row that can be measured: where it stands and how many indices it has. Assumes nothing.
use Rattle.std.specs.Prelude.{◌≡◌, ℕ, ◌+◌, ◌*◌, ◌≤◌, ◌<◌, length, get_or, drop, Float}
use Rattle.std.proofs.Common.{ap, ◌∙◌, arith, length-drop, length-take-le}
use mathlib.Core.List.{List, []}
use Rattle.body_rows.specs.Body.{Patch, rows_of}
use Rattle.body_rows.specs.Rows.{row_at, vertices_before, indices_before}
use Rattle.body_rows.specs.Patches.{patch_from, patch_at_lem, indices_room, vertices_room, shapes}
use Rattle.turn_definition.specs.Inversion.{patch_at}
use Rattle.turn_inversion.specs.Measured.{vertex_bases_at, index_bases_at, RowMeasurable}

module _ {table : List ℕ} {ps : List Float} {is W : List ℕ} {n m x : ℕ} (r : RowMeasurable table ps is W n m x) where
  pub row_in : x < length (rows_of table)
  row_in = omega (arith, r.row, r.given.count)

  pub v_is : get_or W (vertex_bases_at n m + x) 0 ≡ vertices_before (rows_of table) x
  v_is = r.given.vertex_bases x r.row

  pub i_is : get_or W (index_bases_at n m + x) 0 ≡ indices_before (rows_of table) x
  i_is = r.given.index_bases x r.row

  pub v_room : 3 * get_or W (vertex_bases_at n m + x) 0 + 3 * (row_at table x).vertices ≤ length ps
  unfolding row_at
  v_room = omega (arith, v_is, vertices_room (rows_of table) x row_in, r.given.all_positions)

  pub i_room : get_or W (index_bases_at n m + x) 0 + (row_at table x).indices ≤ length is
  unfolding row_at
  i_room = omega (arith, i_is, indices_room (rows_of table) x row_in, r.given.all_indices_lem)

  -- the patch of row x
  pub patch_is : patch_at (shapes table ps is) x ≡ patch_from (row_at table x) ps [] is (vertices_before (rows_of table) x) (indices_before (rows_of table) x)
  unfolding patch_at row_at
  patch_is = patch_at_lem (rows_of table) ps [] is x row_in

  -- its indices are as many as the row says
  pub patch_length : length (patch_at (shapes table ps is) x).indices ≡ (row_at table x).indices
  patch_length =
      ap (λ (p : Patch). length p.indices) patch_is
      ∙ length-take-le (row_at table x).indices (drop (indices_before (rows_of table) x) is) (omega (arith, length-drop (indices_before (rows_of table) x) is, i_room, i_is))
