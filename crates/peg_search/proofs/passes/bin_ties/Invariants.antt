-- `bin_ties` meets its contract. Assumes nothing.
use Prim.Native.Nat.{◌-◌}
use Rattle.peg_search.proofs.NextLaws.{Seeking}
use Rattle.peg_search.proofs.passes.bin_ties.Given as goal

abbrev pub invariant-loop-k : goal.invariant-loop-k
invariant-loop-k l = Seeking l.rows l.positions l.places l.peg l.square l.wanted l.n l.k l.from
