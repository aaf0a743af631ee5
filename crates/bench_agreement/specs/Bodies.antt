-- The work area of a program, which every body with room has. Assumes nothing.
use Rattle.std.specs.Prelude.{List, ◌≡◌, ℕ, ◌+◌, ◌*◌, ◌≤◌, length, drop, replicate, Float}
use Rattle.std.proofs.Common.{◌∙◌, arith, length-append, length-drop}
use Rattle.std.proofs.lemmas.List.{length-replicate}
use Rattle.body_rows.specs.Body.{Row, all_indices, all_vertices, cleared, row_width, rows_of, work_needed}
use Rattle.body_table_checks.specs.Tabled.{Tabled}
use Rattle.sheet_line_order.specs.declared.Limits.{Limits}
use Rattle.bench_definition.specs.Finish.{area}
use Rattle.bench_agreement.specs.Within.{Within}

-- ---- room

-- rows for which a program of such limits has room
pub record Fitting (limits : Limits) (rows : List Row) : Type 0 where
  pub count : length rows ≤ limits.rows
  pub vertices : all_vertices rows ≤ limits.result_vertices
  pub indices : all_indices rows ≤ limits.result_indices

-- a body of such lengths
pub fitting : (limits : Limits) (table : List ℕ) (ps ns : List Float) (is : List ℕ) → Tabled table ps ns is → length table ≤ row_width * limits.rows → length ps ≤ 3 * limits.result_vertices
    → length is ≤ limits.result_indices → Fitting limits (rows_of table)
fitting limits table ps ns is t a b c =
    record { count = omega (arith, t.rows.whole); vertices = omega (arith, t.all_positions); indices = omega (arith, t.all_indices_lem) }

-- The larger program has room where the smaller has.
pub fitting_large : (small large : Limits) (rows : List Row) → Within small large → Fitting small rows → Fitting large rows
fitting_large small large rows w f =
    record { count = omega (arith, f.count, w.rows); vertices = omega (arith, f.vertices, w.result_vertices); indices = omega (arith, f.indices, w.result_indices) }

-- The work area suffices.
pub area_enough : (limits : Limits) (rows : List Row) → Fitting limits rows → work_needed rows ≤ length (area limits)
unfolding work_needed area
area_enough limits rows f =
    omega (arith, f.count, f.vertices, f.indices, length-replicate {A = ℕ} (16 * limits.result_indices + 16 * limits.rows + 4 * limits.result_vertices) 0)

-- Cleared, it is as long as it was.
pub cleared_length : (rows : List Row) (work : List ℕ) → work_needed rows ≤ length work → length (cleared rows work) ≡ length work
unfolding cleared
cleared_length rows work h =
    length-append (replicate (work_needed rows) 0) (drop (work_needed rows) work)
    ∙ omega (arith, length-replicate {A = ℕ} (work_needed rows) 0, length-drop (work_needed rows) work)
