-- `point_key::vertex::key_at` meets its contract. Assumes nothing.
use Rattle.point_key.proofs.Positions.{key_named}
use Rattle.point_key.proofs.vertex.key_at.Goals as goal

pub returns : goal.returns
returns c = search key_named
