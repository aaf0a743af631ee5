-- Which of the checks 21 to 24 fails first. Assumes nothing.
use Rattle.std.specs.Prelude.{◌≡◌, Bool, true, false, ◌||◌, ℕ, Float}
use Rattle.std.proofs.Common.{sym, ◌∙◌}
use mathlib.Core.List.{List, [], ◌++◌}
use Rattle.lists.specs.Lists.{any}
use Rattle.point_rules.specs.Points.{clamps}
use Rattle.body_table_checks.specs.Tabled.{Tabled}
use Rattle.body_rows.specs.Body.{rows_of, patches_of, first_failing}
use Rattle.body_refusals.specs.PatchChecks.{bad_indices, patch_checks}
use Rattle.body_patch_checks.specs.PatchTests.{part_triangle, not_finite, any_indices}
use Rattle.body_rows.specs.Checks.{first_here, first_next, first_none}
use Rattle.body_rows.specs.Patches.{any_row, any_number, any_position}

-- ---- the first that fails
module _ (table : List ℕ) (ps ns : List Float) (is : List ℕ) (ok : Tabled table ps ns is) {a : Bool} (ea : a ≡ any part_triangle (rows_of table)) where
  -- 21, over the patches
  by_21 : a ≡ any (λ p. part_triangle p.row) (patches_of (rows_of table) ps ns is)
  by_21 = ea ∙ sym (any_row part_triangle (rows_of table) ps ns is)

  -- an index count is no multiple of 3
  pub fails_21 : a ≡ true → 21 ≡ first_failing (patch_checks (patches_of (rows_of table) ps ns is))
  unfolding patch_checks
  fails_21 h = first_here 21 _ (sym by_21 ∙ h)

  module _ (pa : a ≡ false) {b : Bool} (eb : b ≡ any bad_indices (patches_of (rows_of table) [] [] is)) where
    -- 22, over the patches
    by_22 : b ≡ any bad_indices (patches_of (rows_of table) ps ns is)
    by_22 = eb ∙ sym (any_indices (rows_of table) ps ns is)

    -- an index is too high
    pub fails_22 : b ≡ true → 22 ≡ first_failing (patch_checks (patches_of (rows_of table) ps ns is))
    unfolding patch_checks
    fails_22 h = first_here 22 _ (sym by_22 ∙ h) ∙ first_next 21 _ (sym by_21 ∙ pa)

    module _ (pb : b ≡ false) {d : Bool} (ed : d ≡ (any not_finite ps || any not_finite ns)) where
      -- 23, over the patches
      by_23 : d ≡ any (λ p. any not_finite (p.positions ++ p.normals)) (patches_of (rows_of table) ps ns is)
      by_23 = ed ∙ sym (any_number not_finite (rows_of table) ps ns is ok.all_positions ok.all_normals)

      -- a number is not finite
      pub fails_23 : d ≡ true → 23 ≡ first_failing (patch_checks (patches_of (rows_of table) ps ns is))
      unfolding patch_checks
      fails_23 h = first_here 23 _ (sym by_23 ∙ h) ∙ first_next 22 _ (sym by_22 ∙ pb) ∙ first_next 21 _ (sym by_21 ∙ pa)

      module _ (pd : d ≡ false) {e : Bool} (ee : e ≡ any clamps ps) where
        -- 24, over the patches
        by_24 : e ≡ any (λ p. any clamps p.positions) (patches_of (rows_of table) ps ns is)
        by_24 = ee ∙ sym (any_position clamps (rows_of table) ps ns is ok.all_positions)

        -- a cell is clamped
        pub fails_24 : e ≡ true → 24 ≡ first_failing (patch_checks (patches_of (rows_of table) ps ns is))
        unfolding patch_checks
        fails_24 h = first_here 24 _ (sym by_24 ∙ h) ∙ first_next 23 _ (sym by_23 ∙ pd) ∙ first_next 22 _ (sym by_22 ∙ pb) ∙ first_next 21 _ (sym by_21 ∙ pa)

        -- no check of the patches fails
        pub fails_no_patch : e ≡ false → 0 ≡ first_failing (patch_checks (patches_of (rows_of table) ps ns is))
        unfolding patch_checks
        fails_no_patch h =
            first_none ∙ first_next 24 [] (sym by_24 ∙ h) ∙ first_next 23 _ (sym by_23 ∙ pd) ∙ first_next 22 _ (sym by_22 ∙ pb) ∙ first_next 21 _ (sym by_21 ∙ pa)
