-- `point_key::vertex::digest_at` meets its contract. Assumes nothing.
use Rattle.point_key.proofs.Positions.{digest_is}
use Rattle.point_key.proofs.vertex.digest_at.Goals as goal

pub returns : goal.returns
returns c = search digest_is
