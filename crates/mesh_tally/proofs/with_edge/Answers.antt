-- `with_edge` meets its contract. Assumes nothing.
use Rattle.mesh_tally.proofs.TallyLaws.{edge_open, edge_over, edge_other}
use Rattle.mesh_tally.proofs.with_edge.Goals as goal

pub returns-then-uses-eq1 : goal.returns-then-uses-eq1
returns-then-uses-eq1 c = search edge_open

pub returns-then-uses-gt2 : goal.returns-then-uses-gt2
returns-then-uses-gt2 c = search edge_over

pub returns : goal.returns
returns c = search edge_other
