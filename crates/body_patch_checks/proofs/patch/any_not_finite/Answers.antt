-- `body_patch_checks::patch::any_not_finite` meets its contract. The first k numbers were looked at. Assumes nothing.
use mathlib.Core.Path.{ap}
use mathlib.Core.Bool.{not}
use Prim.Native.Nat.{◌-◌}
use native.Mathlib.Omega.{arith}
use lib.Ieee.{nan}
use Rattle.lists.specs.Any.{looked_none, looked_more, looked_all}
use Rattle.body_patch_checks.proofs.patch.any_not_finite.Goals as goal

pub loop-x-init : goal.loop-x-init
loop-x-init c = looked_none _ _

pub loop-x-preserved : goal.loop-x-preserved
loop-x-preserved c = looked_more nan c.loop-x.invariant (omega arith) (ap not c.is_finite_f32.ensures)

pub returns : goal.returns
returns c = search looked_all
