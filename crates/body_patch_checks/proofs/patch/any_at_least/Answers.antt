-- `body_patch_checks::patch::any_at_least` meets its contract. The first k numbers are below n. Assumes nothing.
use Prim.Native.Nat.{◌-◌}
use native.Mathlib.Omega.{arith}
use Rattle.lists.specs.Any.{searched_none, searched_all}
use Rattle.body_patch_checks.proofs.PatchLaws.{least_hit, least_more}
use Rattle.body_patch_checks.proofs.patch.any_at_least.Goals as goal

pub loop-i-init : goal.loop-i-init
loop-i-init c = searched_none _ _

pub returns-then-n-i : goal.returns-then-n-i
returns-then-n-i c = least_hit _ c.loop-i.invariant (omega arith) (omega arith)

pub loop-i-preserved : goal.loop-i-preserved
loop-i-preserved c = least_more _ c.loop-i.invariant (omega arith) (omega arith)

pub returns : goal.returns
returns c = searched_all c.loop-i.invariant (omega arith)
