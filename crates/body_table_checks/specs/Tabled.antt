-- What a table has once the checks 11 to 15 have passed. Assumes nothing.
use Rattle.std.specs.Prelude.{◌≡◌, false, ◌&&◌, List, ℕ, ◌*◌, ◌≤◌, length, ltb, eqb, Float}
use Rattle.std.proofs.Common.{ltb-false, eqb-true}
use Rattle.std.proofs.lemmas.Bool.{not-false}
use Rattle.lists.specs.Lists.{any}
use Rattle.body_rows.specs.Body.{rows_of, all_vertices, all_indices, first_failing}
use Rattle.body_refusals.specs.TableChecks.{bad_row, bad_bin, too_large, table_checks}
use Rattle.body_rows.specs.Rows.{WholeRows}
use Rattle.body_table_checks.specs.TableTests.{not_whole, wrong_lengths, whole_rows}
use Rattle.body_rows.specs.Checks.{clear_first}
use Rattle.lists.specs.Both.{or_left, or_right, and_left, and_right}

-- what the checks 11 to 15 give
pub record Tabled (table : List ℕ) (ps ns : List Float) (is : List ℕ) : Type 0 where
  pub rows : WholeRows table
  pub sound : any bad_row (rows_of table) ≡ false
  pub vertices : all_vertices (rows_of table) ≤ 262144
  pub indices : all_indices (rows_of table) ≤ 786432
  pub all_positions : length ps ≡ 3 * all_vertices (rows_of table)
  pub all_normals : length ns ≡ 3 * all_vertices (rows_of table)
  pub all_indices_lem : length is ≡ all_indices (rows_of table)
  pub bins : any bad_bin (rows_of table) ≡ false

-- the tests of the table that did not fail, as facts
pub tabled_by : (table : List ℕ) (ps ns : List Float) (is : List ℕ) → not_whole table ≡ false → any bad_row (rows_of table) ≡ false
    → too_large (all_vertices (rows_of table)) (all_indices (rows_of table)) ≡ false → wrong_lengths (rows_of table) ps ns is ≡ false → any bad_bin (rows_of table) ≡ false → Tabled table ps ns is
unfolding too_large
tabled_by table ps ns is a b c d e15 =
    let v = all_vertices (rows_of table) in
    let i = all_indices (rows_of table) in
    let e = not-false (eqb (length ps) (3 * v) && eqb (length ns) (3 * v) && eqb (length is) i) d in
    let f = and_left (eqb (length ps) (3 * v) && eqb (length ns) (3 * v)) (eqb (length is) i) e in
    record {
      rows = whole_rows a;
      sound = b;
      vertices = ltb-false 262144 v (or_left (ltb 262144 v) (ltb 786432 i) c);
      indices = ltb-false 786432 i (or_right (ltb 262144 v) (ltb 786432 i) c);
      all_positions = eqb-true (length ps) (3 * v) (and_left (eqb (length ps) (3 * v)) (eqb (length ns) (3 * v)) f);
      all_normals = eqb-true (length ns) (3 * v) (and_right (eqb (length ps) (3 * v)) (eqb (length ns) (3 * v)) f);
      all_indices_lem = eqb-true (length is) i (and_right (eqb (length ps) (3 * v) && eqb (length ns) (3 * v)) (eqb (length is) i) e);
      bins = e15;
    }

-- the checks 11 to 15 have passed
pub tabled : (table : List ℕ) (ps ns : List Float) (is : List ℕ) → first_failing (table_checks table (rows_of table) ps ns is) ≡ 0 → Tabled table ps ns is
unfolding table_checks
tabled table ps ns is h =
    let c11 = clear_first 10 _ _ h in
    let c12 = clear_first 11 _ _ c11.rest in
    let c13 = clear_first 12 _ _ c12.rest in
    let c14 = clear_first 13 _ _ c13.rest in
    let c15 = clear_first 14 _ _ c14.rest in
    tabled_by table ps ns is c11.here c12.here c13.here c14.here c15.here
