-- `count_edges` meets its contract. Assumes nothing.
use Rattle.mesh_edges.proofs.MeshLaws.{runs_ready, mesh_counted}
use native.Mathlib.Omega.{arith}
use Rattle.mesh_edges.proofs.mesh.count_edges.Goals as goal

pub run_row-requires : goal.run_row-requires
run_row-requires c =
    runs_ready _ c.requires c.name_edges.ensures (omega arith) c.count_firsts.ensures (omega arith)

pub returns : goal.returns
returns c =
    mesh_counted _ c.requires c.name_edges.ensures (omega arith) c.count_firsts.ensures (omega arith) c.run_row.ensures (omega arith) c.tally.ensures
