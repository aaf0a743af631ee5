-- `closed_mesh` meets its contract. Assumes nothing.
use Rattle.mesh_edges.proofs.ClosedLaws.{closed_once, closed_twice}
use Rattle.mesh_edges.proofs.mesh.closed_mesh.Goals as goal

pub returns-then-not-any_minus_zero : goal.returns-then-not-any_minus_zero
returns-then-not-any_minus_zero c = search closed_once

pub returns : goal.returns
returns c = search closed_twice
