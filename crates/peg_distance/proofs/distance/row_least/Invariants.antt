-- `row_least` meets its contract. Assumes nothing.
use Rattle.peg_distance.proofs.DistanceLaws.{Lessening}
use Rattle.peg_distance.proofs.distance.row_least.Given as goal

abbrev pub invariant-loop-t : goal.invariant-loop-t
invariant-loop-t l = Lessening l.target l.positions l.t l.least
