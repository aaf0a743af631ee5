-- `bits_at` meets its contract. Assumes nothing.
use Rattle.point_key.proofs.Positions.{bits_apart, bits_joined, bits_minus_zero}
use Rattle.std.proofs.Common.{rules}
use Rattle.point_key.proofs.vertex.bits_at.Goals as goal

pub returns-then-not-joined : goal.returns-then-not-joined
returns-then-not-joined c = search (rules, bits_apart)

pub returns-then-b-eq-MINUS_ZERO : goal.returns-then-b-eq-MINUS_ZERO
returns-then-b-eq-MINUS_ZERO c = search (rules, bits_minus_zero)

pub returns : goal.returns
returns c = search (rules, bits_joined)
