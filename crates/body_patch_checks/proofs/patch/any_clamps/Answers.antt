-- `body_patch_checks::patch::any_clamps` meets its contract. The first k numbers were looked at. Assumes nothing.
use Prim.Native.Nat.{◌-◌}
use native.Mathlib.Omega.{arith}
use lib.Ieee.{nan}
use Rattle.lists.specs.Any.{looked_none, looked_more, looked_all}
use Rattle.body_patch_checks.proofs.patch.any_clamps.Goals as goal

pub loop-v-init : goal.loop-v-init
loop-v-init c = looked_none _ _

pub loop-v-preserved : goal.loop-v-preserved
loop-v-preserved c = looked_more nan c.loop-v.invariant (omega arith) c.clamps-found.ensures

pub returns : goal.returns
returns c = search looked_all
