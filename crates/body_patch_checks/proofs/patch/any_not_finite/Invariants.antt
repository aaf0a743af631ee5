-- `body_patch_checks::patch::any_not_finite` meets its contract. The first k numbers were looked at. Assumes nothing.
use Prim.Native.Nat.{◌-◌}
use lib.ListN.{length}
use Rattle.lists.specs.Any.{Looked}
use Rattle.body_patch_checks.specs.PatchTests.{not_finite}
use Rattle.body_patch_checks.proofs.patch.any_not_finite.Given as goal

abbrev pub invariant-loop-x : goal.invariant-loop-x
invariant-loop-x l = Looked not_finite l.s l.x-index l.found
