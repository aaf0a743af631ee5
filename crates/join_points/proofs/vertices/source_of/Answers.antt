-- `source_of` meets its contract. Assumes nothing.
use Rattle.join_points.proofs.Rules.{source_is}
use Rattle.join_points.specs.Rules.{source_of}
use Rattle.join_points.proofs.vertices.source_of.Goals as goal

pub returns-in-Key : goal.returns-in-Key
unfolding source_of
returns-in-Key c = source_is c.in-Key.is

pub returns-in-Bits : goal.returns-in-Bits
unfolding source_of
returns-in-Bits c = source_is c.in-Bits.is

pub returns-in-Zeros : goal.returns-in-Zeros
unfolding source_of
returns-in-Zeros c = source_is c.in-Zeros.is
