-- `body_patch_checks::patch::any_number_not_finite` meets its contract. Assumes nothing.
use Rattle.body_patch_checks.proofs.PatchLaws.{first_so, second_so}
use Rattle.body_patch_checks.proofs.patch.any_number_not_finite.Goals as goal

pub returns-then-any_not_finite : goal.returns-then-any_not_finite
returns-then-any_not_finite c = search first_so

pub returns : goal.returns
returns c = search second_so
