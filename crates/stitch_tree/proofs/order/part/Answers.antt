-- `stitch_tree::part` meets its contract. Assumes nothing.
use Rattle.stitch_tree.proofs.OrderLaws.{parting_none, next_held, parting_more, parting_all}
use Prim.Native.Nat.{◌-◌}
use Rattle.stitch_tree.proofs.order.part.Goals as goal

pub loop-j-init : goal.loop-j-init
loop-j-init c = search parting_none

pub coordinate-requires : goal.coordinate-requires
coordinate-requires c = search next_held

pub loop-j-preserved : goal.loop-j-preserved
loop-j-preserved c = search parting_more

pub returns : goal.returns
returns c = search parting_all
