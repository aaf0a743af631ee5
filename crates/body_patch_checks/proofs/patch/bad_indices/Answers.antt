-- `body_patch_checks::patch::bad_indices` meets its contract. Assumes nothing.
use Rattle.body_patch_checks.proofs.PatchLaws.{row_test}
use Rattle.body_patch_checks.proofs.patch.bad_indices.Goals as goal

pub returns : goal.returns
returns c = row_test _ _ c.indices-n.ensures c.vertices.ensures c.any_at_least.ensures
