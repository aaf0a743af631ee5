-- `next_bin` meets its contract. Assumes nothing.
use Prim.Native.Nat.{◌-◌}
use Rattle.peg_search.proofs.NextLaws.{Lowering}
use Rattle.peg_search.proofs.passes.next_bin.Given as goal

abbrev pub invariant-loop-k : goal.invariant-loop-k
invariant-loop-k l = Lowering l.rows l.first l.n l.k l.found
