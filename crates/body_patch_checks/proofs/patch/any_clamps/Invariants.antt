-- `body_patch_checks::patch::any_clamps` meets its contract. The first k numbers were looked at. Assumes nothing.
use Prim.Native.Nat.{◌-◌}
use lib.ListN.{length}
use Rattle.lists.specs.Any.{Looked}
use Rattle.point_rules.specs.Points.{clamps}
use Rattle.body_patch_checks.proofs.patch.any_clamps.Given as goal

abbrev pub invariant-loop-v : goal.invariant-loop-v
invariant-loop-v l = Looked clamps l.positions l.v-index l.found
