-- `point_key::vertex::front_bits` meets its contract. Assumes nothing.
use Rattle.point_key.proofs.Positions.{front_is}
use Rattle.point_key.proofs.vertex.front_bits.Goals as goal

pub returns : goal.returns
returns c = search front_is
