-- `append_normals` meets its contract. Assumes nothing.
use Prim.Native.Nat.{◌-◌}
use Rattle.stitch_ring_vertices.proofs.VertexLaws.{normals_none, corners_ready, three_room, normals_more, normals_all}
use Rattle.stitch_ring_vertices.proofs.vertices.append_normals.Goals as goal

pub loop-j-init : goal.loop-j-init
loop-j-init c = search normals_none

pub edge_normal-n-requires : goal.edge_normal-n-requires
edge_normal-n-requires c = search corners_ready

pub put_three-requires : goal.put_three-requires
put_three-requires c = search three_room

pub loop-j-preserved : goal.loop-j-preserved
loop-j-preserved c = search normals_more

pub returns : goal.returns
returns c = search normals_all
