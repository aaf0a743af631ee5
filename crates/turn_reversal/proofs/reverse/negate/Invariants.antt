-- `negate` meets its contract. Assumes nothing.
use Rattle.turn_reversal.proofs.ReverseLaws.{Negating}
use Rattle.turn_reversal.proofs.reverse.negate.Given as goal

abbrev pub invariant-loop-normal : goal.invariant-loop-normal
invariant-loop-normal l = Negating l.initial.normals l.normal-index l.normals
