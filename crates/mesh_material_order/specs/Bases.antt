-- Laws of how many vertices of the mesh stand before a row. Assumes nothing.
use Rattle.std.specs.Prelude.{◌≡◌, List, [], ◌∷◌, ℕ, zero, suc, ◌+◌, ◌≤◌, ◌<◌, length, get_or}
use Rattle.std.proofs.Common.{◌∙◌, arith}
use Rattle.lists.specs.Lists.{sum_of}
use Rattle.body_rows.specs.Body.{Row, rows_of, all_vertices}
use Rattle.body_rows.specs.Rows.{row_at, vertices_before}
use Rattle.mesh_layout.specs.JudgedRows.{judged_rows, judged_in, base_after}
use Rattle.mesh_layout.specs.RowLaws.{sum_here}
use Rattle.mesh_material_order.specs.Order.{bases_before}

-- what a row adds, added to the rest
after_add : (base vertices d : ℕ) → base + base_after 0 vertices d ≡ base_after base vertices d
unfolding base_after
after_add base vertices zero = omega arith
after_add base vertices (suc m) = omega arith

-- one row more
pub bases_next : (table W : List ℕ) (at : ℕ) → at + length (rows_of table) ≤ length W → (k : ℕ) → k < length (rows_of table)
    → bases_before (judged_in table W at) (k + 1) ≡ base_after (bases_before (judged_in table W at) k) (row_at table k).vertices (get_or W (at + k) 0)
bases_next table W at room k h = sum_here table W at room k h (λ j. base_after 0 j.row.vertices j.decision)
    ∙ after_add (bases_before (judged_in table W at) k) (row_at table k).vertices (get_or W (at + k) 0)

-- no more than those of all rows before it
pub bases_low : (k : ℕ) (ds : List ℕ) (rs : List Row) → bases_before (judged_rows ds rs) k ≤ vertices_before rs k
unfolding judged_rows vertices_before all_vertices sum_of base_after
bases_low zero ds rs = omega arith
bases_low (suc k) [] rs = omega arith
bases_low (suc k) (d ∷ ds) [] = omega arith
bases_low (suc k) (zero ∷ ds) (r ∷ rs) = let e = bases_low k ds rs in omega arith
bases_low (suc k) (suc d ∷ ds) (r ∷ rs) = let e = bases_low k ds rs in omega arith
