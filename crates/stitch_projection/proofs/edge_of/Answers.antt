-- `stitch_projection::edge_of` meets its contract. Assumes nothing.
use Rattle.stitch_projection.proofs.EdgeLaws.{edge_is}
use Rattle.stitch_projection.proofs.edge_of.Goals as goal

pub returns : goal.returns
returns c = search edge_is
