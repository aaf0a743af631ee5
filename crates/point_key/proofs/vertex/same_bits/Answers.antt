-- `point_key::vertex::same_bits` meets its contract. Assumes nothing.
use Rattle.point_key.proofs.Positions.{last_differs, fronts_decide}
use Rattle.point_key.proofs.vertex.same_bits.Goals as goal

pub returns-then-a-b : goal.returns-then-a-b
returns-then-a-b c = search last_differs

pub returns : goal.returns
returns c = search fronts_decide
