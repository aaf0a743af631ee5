-- `body_patch_checks::patch::any_bad_index` meets its contract. The first k rows have good indices, which end at base. Assumes nothing.
use Prim.Native.Nat.{◌-◌}
use native.Mathlib.Omega.{arith}
use Rattle.body_patch_checks.proofs.PatchLaws.{indexing_none, indexing_room, indexing_hit, indexing_more, indexing_all}
use Rattle.body_patch_checks.proofs.patch.any_bad_index.Goals as goal

pub loop-k-init : goal.loop-k-init
loop-k-init c = indexing_none _ _

pub bad_indices-requires : goal.bad_indices-requires
bad_indices-requires c = indexing_room c.loop-k.invariant (omega arith) c.requires

pub returns-then-bad_indices : goal.returns-then-bad_indices
returns-then-bad_indices c = indexing_hit c.loop-k.invariant (omega arith) c.bad_indices.ensures c.if-bad_indices.true

pub overflow_add-base : goal.overflow_add-base
overflow_add-base c = omega (arith, (indexing_room c.loop-k.invariant (omega arith) c.requires).room, c.indices.ensures)

pub loop-k-preserved : goal.loop-k-preserved
loop-k-preserved c = indexing_more c.loop-k.invariant (omega arith) c.bad_indices.ensures c.if-bad_indices.false c.indices.ensures

pub returns : goal.returns
returns c = indexing_all c.loop-k.invariant (omega arith)
