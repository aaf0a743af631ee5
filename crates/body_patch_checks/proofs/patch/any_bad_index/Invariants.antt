-- `body_patch_checks::patch::any_bad_index` meets its contract. The first k rows have good indices, which end at base. Assumes nothing.
use Prim.Native.Nat.{◌-◌}
use Rattle.body_patch_checks.proofs.PatchLaws.{Indexing}
use Rattle.body_patch_checks.proofs.patch.any_bad_index.Given as goal

abbrev pub invariant-loop-k : goal.invariant-loop-k
invariant-loop-k l = Indexing l.table l.all l.k l.base
