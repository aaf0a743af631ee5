-- `body_patch_checks::patch::patch_failing` meets its contract. Assumes nothing.
use Rattle.body_patch_checks.proofs.PatchLaws.{all_indices_fit}
use Rattle.body_patch_checks.specs.PatchFirst.{fails_21, fails_22, fails_23, fails_24, fails_no_patch}
use Rattle.body_patch_checks.proofs.patch.patch_failing.Goals as goal

pub returns-then-any_part_triangle : goal.returns-then-any_part_triangle
returns-then-any_part_triangle c = search fails_21

pub any_bad_index-requires : goal.any_bad_index-requires
any_bad_index-requires c = search all_indices_fit

pub returns-then-any_bad_index : goal.returns-then-any_bad_index
returns-then-any_bad_index c = search fails_22

pub returns-then-any_number_not_finite : goal.returns-then-any_number_not_finite
returns-then-any_number_not_finite c = search fails_23

pub returns-then-any_clamps : goal.returns-then-any_clamps
returns-then-any_clamps c = search fails_24

pub returns : goal.returns
returns c = search fails_no_patch
