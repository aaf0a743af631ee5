-- `append_moved` meets its contract. With k indices done, those of the stretch, moved, stand from place o on and the rest is as it was. Assumes nothing.
use Prim.Native.Nat.{◌+◌}
use native.Mathlib.Omega.{arith}
use Rattle.slice_append.proofs.StretchLaws.{stretching_none, moving_more, moving_small, moving_all}
use Rattle.slice_append.proofs.append_moved.Goals as goal

pub loop-k-init : goal.loop-k-init
loop-k-init c = stretching_none (λ i. _ + i) _ _ _ _ _

pub overflow_add-out-in-loop-k : goal.overflow_add-out-in-loop-k
overflow_add-out-in-loop-k c = search moving_small

pub loop-k-preserved : goal.loop-k-preserved
loop-k-preserved c = search moving_more

pub returns : goal.returns
returns c = moving_all c.requires c.loop-k.invariant (omega (arith, c.loop-k-test.false))
