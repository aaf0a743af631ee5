-- `name_edges` meets its contract. Assumes nothing.
use Rattle.mesh_edges.proofs.MeshLaws.{name_ready, edges_named}
use Rattle.mesh_edges.proofs.mesh.name_edges.Goals as goal

pub name_row-requires : goal.name_row-requires
name_row-requires c = search name_ready

pub returns : goal.returns
returns c = search edges_named
