-- `stitch_tree::halve_blocks` meets its contract. Assumes nothing.
use Rattle.stitch_tree.proofs.OrderLaws.{halving_none, halve_ready, halving_more}
use Prim.Native.Nat.{◌-◌}
use Rattle.stitch_tree.proofs.order.halve_blocks.Goals as goal

pub loop-a-init : goal.loop-a-init
loop-a-init c = search halving_none

pub halve-requires : goal.halve-requires
halve-requires c = search halve_ready

pub loop-a-preserved : goal.loop-a-preserved
loop-a-preserved c = search halving_more
