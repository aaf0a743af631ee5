-- `any_out_of_range` meets its contract. Assumes nothing.
use Prim.Native.Nat.{◌-◌}
use Rattle.peg.proofs.RangeLaws.{Ranging}
use Rattle.peg.proofs.places.any_out_of_range.Given as goal

abbrev pub invariant-loop-k : goal.invariant-loop-k
invariant-loop-k l = Ranging l.places l.n l.k
