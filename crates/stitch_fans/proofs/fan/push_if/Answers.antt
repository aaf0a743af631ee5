-- `push_if` meets its contract. Assumes nothing.
use Rattle.stitch_fans.proofs.EdgeLaws.{picked_room, picked_on, picked_off}
use Rattle.stitch_fans.proofs.fan.push_if.Goals as goal

pub push-requires : goal.push-requires
push-requires c = search picked_room

pub returns-then-w-k : goal.returns-then-w-k
returns-then-w-k c = search picked_on

pub returns : goal.returns
returns c = search picked_off
