-- `count_firsts` meets its contract. Assumes nothing.
use Rattle.mesh_edges.proofs.MeshLaws.{counts_room, firsts_counted}
use Rattle.mesh_edges.proofs.mesh.count_firsts.Goals as goal

pub count_uses-requires : goal.count_uses-requires
count_uses-requires c = search counts_room

pub returns : goal.returns
returns c = search firsts_counted
