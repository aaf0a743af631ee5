-- What patches have once the checks 21 to 24 have passed. Assumes nothing.
use Rattle.std.specs.Prelude.{◌≡◌, false, List, ◌++◌}
use Rattle.lists.specs.Lists.{any}
use Rattle.point_rules.specs.Points.{clamps}
use Rattle.body_rows.specs.Body.{Patch, first_failing}
use Rattle.body_refusals.specs.PatchChecks.{bad_indices, patch_checks}
use Rattle.body_patch_checks.specs.PatchTests.{part_triangle, not_finite}
use Rattle.body_rows.specs.Checks.{clear_first}

-- what the checks 21 to 24 give
pub record Patched (patches : List Patch) : Type 0 where
  pub threes : any (λ p. part_triangle p.row) patches ≡ false
  pub inside : any bad_indices patches ≡ false
  pub numbers : any (λ p. any not_finite (p.positions ++ p.normals)) patches ≡ false
  pub unclamped : any (λ p. any clamps p.positions) patches ≡ false

-- the checks 21 to 24 have passed
pub patched : (patches : List Patch) → first_failing (patch_checks patches) ≡ 0 → Patched patches
unfolding patch_checks
patched patches h =
    let c21 = clear_first 20 _ _ h in
    let c22 = clear_first 21 _ _ c21.rest in
    let c23 = clear_first 22 _ _ c22.rest in
    let c24 = clear_first 23 _ _ c23.rest in
    record { threes = c21.here; inside = c22.here; numbers = c23.here; unclamped = c24.here }
