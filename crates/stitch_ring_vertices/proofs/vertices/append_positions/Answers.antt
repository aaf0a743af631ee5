-- `append_positions` meets its contract. Assumes nothing.
use Prim.Native.Nat.{◌-◌}
use Rattle.stitch_ring_vertices.proofs.VertexLaws.{positions_none, point_ready, positions_more, positions_all}
use Rattle.stitch_ring_vertices.proofs.vertices.append_positions.Goals as goal

pub loop-j-init : goal.loop-j-init
loop-j-init c = search positions_none

pub copy_point-requires : goal.copy_point-requires
copy_point-requires c = search point_ready

pub loop-j-preserved : goal.loop-j-preserved
loop-j-preserved c = search positions_more

pub returns : goal.returns
returns c = search positions_all
