-- `join_body` meets its contract. Assumes nothing.
use Rattle.stitch_open_edges.proofs.OpenStages.{body_joined}
use Rattle.stitch_open_edges.proofs.open.join_body.Goals as goal

pub returns : goal.returns
returns c = search body_joined
