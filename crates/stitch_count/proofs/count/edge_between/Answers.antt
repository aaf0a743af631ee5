-- `edge_between` meets its contract. Assumes nothing.
use Rattle.stitch_count.proofs.CountLaws.{edge_made}
use Rattle.stitch_count.proofs.count.edge_between.Goals as goal

pub returns : goal.returns
returns c = search edge_made
