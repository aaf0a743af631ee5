-- `is_closed` meets its contract. Assumes nothing.
use Rattle.mesh_edges.proofs.ClosedLaws.{closed_is}
use Rattle.mesh_edges.proofs.mesh.is_closed.Goals as goal

pub returns : goal.returns
returns c = search closed_is
