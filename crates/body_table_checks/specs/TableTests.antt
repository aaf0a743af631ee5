-- The conditions of the checks 11 and 14 by name, and what the table has once they have passed. Assumes nothing.
use Rattle.std.specs.Prelude.{◌≡◌, Bool, false, not, ◌&&◌, ◌||◌, List, ℕ, ◌*◌, ◌%◌, length, ltb, eqb, Float}
use Rattle.std.proofs.Common.{arith, ltb-false, eqb-true}
use Rattle.std.proofs.lemmas.Bool.{not-false}
use Rattle.body_rows.specs.Body.{Row, rows_of, all_vertices, all_indices, row_width}
use Rattle.body_refusals.specs.TableChecks.{most_rows}
use Rattle.body_rows.specs.Rows.{WholeRows, length_rows}
use Rattle.lists.specs.Both.{or_left, or_right}

-- 11: the table isn't whole rows, or has too many
abbrev pub not_whole : List ℕ → Bool
not_whole table = not (eqb (length table % row_width) 0) || ltb most_rows (length (rows_of table))

-- 14: a slice is not as long as the rows say
abbrev pub wrong_lengths : List Row → List Float → List Float → List ℕ → Bool
wrong_lengths rows ps ns is = not (eqb (length ps) (3 * all_vertices rows) && eqb (length ns) (3 * all_vertices rows) && eqb (length is) (all_indices rows))

-- ---- what the checks of the table give
-- check 11 has passed
pub whole_rows : {table : List ℕ} → not_whole table ≡ false → WholeRows table
whole_rows {table} h =
    let w = eqb-true (length table % row_width) 0 (not-false (eqb (length table % row_width) 0) (or_left (not (eqb (length table % row_width) 0)) (ltb 4096 (length (rows_of table))) h)) in
    record {
      whole = omega (arith, length_rows table);
      few = ltb-false 4096 (length (rows_of table)) (or_right (not (eqb (length table % row_width) 0)) (ltb 4096 (length (rows_of table))) h);
    }
