-- `append_fan` meets its contract. Assumes nothing.
use Rattle.stitch_fans.proofs.EdgeLaws.{ready_0, room_b, ready_1, room_c, ready_2, fan_written}
use Rattle.stitch_fans.proofs.fan.append_fan.Goals as goal

pub push_edge-f0-requires : goal.push_edge-f0-requires
push_edge-f0-requires c = search ready_0

pub push-fb-requires : goal.push-fb-requires
push-fb-requires c = search room_b

pub push_edge-f1-requires : goal.push_edge-f1-requires
push_edge-f1-requires c = search ready_1

pub push-fc-requires : goal.push-fc-requires
push-fc-requires c = search room_c

pub push_edge-f2-requires : goal.push_edge-f2-requires
push_edge-f2-requires c =
    ready_2 c.requires c.held-count.ensures c.push_edge-f0.ensures c.push-fb.ensures c.push_edge-f1.ensures c.push-fc.ensures

pub returns : goal.returns
returns c =
    fan_written c.requires c.held-count.ensures c.push_edge-f0.ensures c.push-fb.ensures c.push_edge-f1.ensures c.push-fc.ensures c.push_edge-f2.ensures
