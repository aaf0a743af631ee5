-- Request N6: in a body that was accepted no cell is clamped, so two of its points have one cell exactly if the nearest whole numbers agree on each axis.
-- Assumes nothing.
use Rattle.std.specs.Prelude.{◌≡◌, false, List, map, ℕ, Float}
use Rattle.std.proofs.Common.{sym, ◌∙◌}
use Rattle.lists.specs.Lists.{any}
use Rattle.point_rules.specs.Points.{cell, nearest, clamps}
use Rattle.point_rules.proofs.Unclamped.{cell_nearest, nearest_cell}
use Rattle.point_rules.specs.Unclamped.{of_vertex}
use Rattle.body_rows.specs.Body.{rows_of, first_failing}
use Rattle.body_rows.specs.Patches.{any_position}
use Rattle.body_refusals.specs.BodyChecks.{before_work, body_checks, lone_table, lone_checks}
use Rattle.body_checks.specs.Accepted.{clean_before, before_passed}

module _ (table : List ℕ) (ps ns : List Float) (is : List ℕ) where
  -- no cell is clamped where the checks to 24 have passed, as for a peg's lookup
  pub no_clamped : first_failing (before_work table ps ns is) ≡ 0 → any clamps ps ≡ false
  no_clamped h = let c = clean_before table ps ns is h in sym (any_position clamps (rows_of table) ps ns is c.tabled.all_positions) ∙ c.patched.unclamped

  -- nor where those that turning, stitching and assembling begin with have
  pub accepted_unclamped : (words : ℕ) → first_failing (body_checks table ps ns is words) ≡ 0 → any clamps ps ≡ false
  accepted_unclamped words h = no_clamped (before_passed table ps ns is words h)

  -- Two points of one cell have the same nearest whole numbers,
  pub one_cell_nearest : first_failing (before_work table ps ns is) ≡ 0 → (i j : ℕ) → of_vertex (map cell ps) i ≡ of_vertex (map cell ps) j
      → of_vertex (map (nearest 1_000_000) ps) i ≡ of_vertex (map (nearest 1_000_000) ps) j
  one_cell_nearest h = cell_nearest ps (no_clamped h)

  -- and two of the same nearest whole numbers one cell.
  pub nearest_one_cell : first_failing (before_work table ps ns is) ≡ 0 → (i j : ℕ) → of_vertex (map (nearest 1_000_000) ps) i ≡ of_vertex (map (nearest 1_000_000) ps) j
      → of_vertex (map cell ps) i ≡ of_vertex (map cell ps) j
  nearest_one_cell h = nearest_cell ps (no_clamped h)

-- nor in a patch alone that was accepted
pub lone_unclamped : (ps ns : List Float) (is : List ℕ) → first_failing (lone_checks ps ns is) ≡ 0 → any clamps ps ≡ false
unfolding lone_checks
lone_unclamped ps ns is h = no_clamped (lone_table ps is) ps ns is h
