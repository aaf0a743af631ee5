-- `push_edge` meets its contract. Assumes nothing.
use Prim.Native.Nat.{◌-◌}
use Rattle.stitch_fans.proofs.EdgeLaws.{pushing_none, pushing_more, pushing_all, entry_ready}
use Rattle.stitch_fans.proofs.fan.push_edge.Goals as goal

pub loop-j-init : goal.loop-j-init
loop-j-init c = search pushing_none

pub push_if-g-requires : goal.push_if-g-requires
push_if-g-requires c = search entry_ready

pub loop-j-preserved : goal.loop-j-preserved
loop-j-preserved c = search pushing_more

pub returns : goal.returns
returns c = search pushing_all
