-- `patch_volume::volume::patch_volume` meets its contract. What is left to add to the total is the same at each turn. Assumes nothing.
use Rattle.std.proofs.Common.{arith}
use Rattle.patch_volume.proofs.VolumeLaws.{summing_none, summing_more, summing_all, corners_within}
use Rattle.patch_volume.proofs.volume.patch_volume.Goals as goal

pub loop-a-init : goal.loop-a-init
loop-a-init c = summing_none _ _ _

pub triangle-total-requires : goal.triangle-total-requires
triangle-total-requires c = corners_within _ c.as_chunks.ensures.front c.as_chunks.ensures.front_len c.loop-a-test.true _ c.requires

pub loop-a-preserved : goal.loop-a-preserved
loop-a-preserved c = summing_more _ c.as_chunks.ensures.front c.as_chunks.ensures.front_len c.loop-a-test.true c.loop-a.invariant c.triangle-total.ensures

pub returns : goal.returns
returns c = summing_all c.loop-a.invariant (omega (arith, c.loop-a-test.false, c.as_chunks.ensures.front_len))
