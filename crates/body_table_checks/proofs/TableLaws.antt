-- The checks of the table, as the code makes them. Assumes nothing.
use mathlib.Core.Path.{◌≡◌, sym, ap, ◌∙◌}
use mathlib.Core.Bool.{Bool, true, false, not}
use mathlib.Core.List.{List}
use Prim.Native.Nat.{ℕ, ◌+◌, ◌%◌, ◌≤◌, ◌<◌}
use lib.ListN.{length}
use lib.Dec.{ltb, eqb}
use borrow.Author.Tests.{eq-eqb, ne_eqb, lt-ltb, le-ltb}
use Rattle.body_rows.specs.Body.{row_width, Row, rows_of}
use Rattle.body_refusals.specs.TableChecks.{most_bin, bad_row, bad_bin, too_large}
use Rattle.body_table_checks.specs.TableTests.{not_whole}
use Rattle.body_rows.specs.Rows.{Total}

-- ---- 11
-- the table isn't whole rows
pub whole_not : (table : List ℕ) → (length table % row_width ≡ 0 → ⊥) → true ≡ not_whole table
whole_not table h = simp (ne_eqb _ _ h)

-- it is: the rows may be too many
pub whole_many : (table : List ℕ) {n : ℕ} → length table % row_width ≡ 0 → n ≡ length (rows_of table) → ltb 4096 n ≡ not_whole table
whole_many table {n} h e = simp (eq-eqb (length table % row_width) 0 h) (ap (ltb 4096) e)

-- ---- 12
module _ (r : Row) {o : ℕ} (e : o ≡ r.outcome) where
  -- the outcome is above 255
  pub bad_high : 255 < o → true ≡ bad_row r
  unfolding bad_row
  bad_high h = rw (sym e, lt-ltb 255 o h)

  -- the row is of a patch
  pub bad_patch : o ≡ 0 → false ≡ bad_row r
  unfolding bad_row
  bad_patch z = rw (sym e, z)

  -- the row has failed: its counts decide
  pub bad_failed : {v i : ℕ} → o ≤ 255 → (o ≡ 0 → ⊥) → v ≡ r.vertices → i ≡ r.indices → not (eqb (v + i) 0) ≡ bad_row r
  unfolding bad_row
  bad_failed h z p q = rw (sym e, le-ltb 255 o h, ne_eqb o 0 z, sym p, sym q)

-- ---- 13
-- too many vertices
pub many_vertices : {vs : ℕ} (is : ℕ) → 262144 < vs → true ≡ too_large vs is
unfolding too_large
many_vertices {vs} is h = rw (lt-ltb 262144 vs h)

-- not: the indices decide
pub many_indices : {vs : ℕ} (is : ℕ) → vs ≤ 262144 → ltb 786432 is ≡ too_large vs is
unfolding too_large
many_indices {vs} is h = rw (le-ltb 262144 vs h)

-- the totals are the counts
pub large_totals : {v i vs is : ℕ} {r : Bool} → Total vs v → Total is i → r ≡ too_large v i → r ≡ too_large vs is
large_totals t s e = e ∙ (λ j. too_large (t.is j) (s.is j))

-- ---- 15
-- the bin decides
pub bin_high : (r : Row) {b : ℕ} → b ≡ r.bin → ltb most_bin b ≡ bad_bin r
unfolding bad_bin
bin_high r e = ap (ltb most_bin) e
