-- Which of the checks 11 to 15 fails first. Assumes nothing.
use Rattle.std.specs.Prelude.{◌≡◌, Bool, true, false, not, ℕ, ◌*◌, length, eqb, Float}
use Rattle.std.proofs.Common.{sym, ◌∙◌, eq-eqb, ne_eqb}
use mathlib.Core.List.{List, []}
use Rattle.lists.specs.Lists.{any}
use Rattle.body_rows.specs.Body.{Row, rows_of, all_vertices, all_indices, first_failing}
use Rattle.body_refusals.specs.TableChecks.{bad_row, bad_bin, too_large, table_checks}
use Rattle.body_table_checks.specs.TableTests.{not_whole, wrong_lengths, whole_rows}
use Rattle.body_rows.specs.Checks.{first_here, first_next, first_none}
use Rattle.body_rows.specs.Rows.{Total, WholeRows}

-- ---- 14
module _ (rows : List Row) (ps ns : List Float) (is : List ℕ) {v : ℕ} (t : Total (all_vertices rows) v) where
  -- the positions are not as many as the rows say
  pub lengths_positions : (length ps ≡ 3 * v → ⊥) → true ≡ wrong_lengths rows ps ns is
  lengths_positions h = rw (sym t.is, ne_eqb (length ps) (3 * v) h)

  -- the normals are not
  pub lengths_normals : length ps ≡ 3 * v → (length ns ≡ 3 * v → ⊥) → true ≡ wrong_lengths rows ps ns is
  lengths_normals e h = rw (sym t.is, eq-eqb (length ps) (3 * v) e, ne_eqb (length ns) (3 * v) h)

  -- both are: the indices decide
  pub lengths_indices : {i : ℕ} → length ps ≡ 3 * v → length ns ≡ 3 * v → Total (all_indices rows) i → not (eqb (length is) i) ≡ wrong_lengths rows ps ns is
  lengths_indices e f s = rw (sym t.is, sym s.is, eq-eqb (length ps) (3 * v) e, eq-eqb (length ns) (3 * v) f)

-- ---- the first that fails
module _ (table : List ℕ) (ps ns : List Float) (is : List ℕ) {a : Bool} (ea : a ≡ not_whole table) where
  -- check 11 has passed
  pub whole_passed : a ≡ false → WholeRows table
  whole_passed h = whole_rows (sym ea ∙ h)

  -- check 11 fails
  pub fails_11 : a ≡ true → 11 ≡ first_failing (table_checks table (rows_of table) ps ns is)
  unfolding table_checks
  fails_11 h = first_here 11 _ (sym ea ∙ h)

  module _ (pa : a ≡ false) {b : Bool} (eb : b ≡ any bad_row (rows_of table)) where
    -- check 12 fails
    pub fails_12 : b ≡ true → 12 ≡ first_failing (table_checks table (rows_of table) ps ns is)
    unfolding table_checks
    fails_12 h = first_here 12 _ (sym eb ∙ h) ∙ first_next 11 _ (sym ea ∙ pa)

    module _ (pb : b ≡ false) {d : Bool} (ed : d ≡ too_large (all_vertices (rows_of table)) (all_indices (rows_of table))) where
      -- check 13 fails
      pub fails_13 : d ≡ true → 13 ≡ first_failing (table_checks table (rows_of table) ps ns is)
      unfolding table_checks
      fails_13 h = first_here 13 _ (sym ed ∙ h) ∙ first_next 12 _ (sym eb ∙ pb) ∙ first_next 11 _ (sym ea ∙ pa)

      module _ (pd : d ≡ false) {e : Bool} (ee : e ≡ wrong_lengths (rows_of table) ps ns is) where
        -- check 14 fails
        pub fails_14 : e ≡ true → 14 ≡ first_failing (table_checks table (rows_of table) ps ns is)
        unfolding table_checks
        fails_14 h = first_here 14 _ (sym ee ∙ h) ∙ first_next 13 _ (sym ed ∙ pd) ∙ first_next 12 _ (sym eb ∙ pb) ∙ first_next 11 _ (sym ea ∙ pa)

        module _ (pe : e ≡ false) {f : Bool} (ef : f ≡ any bad_bin (rows_of table)) where
          -- check 15 fails
          pub fails_15 : f ≡ true → 15 ≡ first_failing (table_checks table (rows_of table) ps ns is)
          unfolding table_checks
          fails_15 h = first_here 15 _ (sym ef ∙ h) ∙ first_next 14 _ (sym ee ∙ pe) ∙ first_next 13 _ (sym ed ∙ pd) ∙ first_next 12 _ (sym eb ∙ pb) ∙ first_next 11 _ (sym ea ∙ pa)

          -- no check of the table fails
          pub fails_none : f ≡ false → 0 ≡ first_failing (table_checks table (rows_of table) ps ns is)
          unfolding table_checks
          fails_none h = first_none ∙ first_next 15 [] (sym ef ∙ h) ∙ first_next 14 _ (sym ee ∙ pe) ∙ first_next 13 _ (sym ed ∙ pd) ∙ first_next 12 _ (sym eb ∙ pb) ∙ first_next 11 _ (sym ea ∙ pa)
