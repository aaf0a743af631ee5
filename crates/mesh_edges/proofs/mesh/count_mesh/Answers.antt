-- `count_mesh` meets its contract. Assumes nothing.
use Rattle.mesh_edges.proofs.ClosedLaws.{bits_counts, edges_counted, ready_after}
use borrow.Author.Rules.{rules}
use Rattle.mesh_edges.proofs.mesh.count_mesh.Goals as goal

pub closed_mesh-closed-requires : goal.closed_mesh-closed-requires
closed_mesh-closed-requires c = search (rules, bits_counts, ready_after)

pub returns : goal.returns
returns c = search edges_counted
