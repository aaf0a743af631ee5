-- `body_patch_checks::patch::any_at_least` meets its contract. The first k numbers are below n. Assumes nothing.
use Prim.Native.Nat.{◌-◌}
use lib.ListN.{length}
use lib.Dec.{leb}
use Rattle.lists.specs.Any.{Searched}
use Rattle.body_patch_checks.proofs.patch.any_at_least.Given as goal

abbrev pub invariant-loop-i : goal.invariant-loop-i
invariant-loop-i l = Searched (λ i. leb l.n i) l.s l.i-index
