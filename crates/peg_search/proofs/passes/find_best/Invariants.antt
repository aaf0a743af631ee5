-- `find_best` meets its contract. Assumes nothing.
use Prim.Native.Nat.{◌-◌}
use Rattle.peg_search.proofs.BestLaws.{Finding}
use Rattle.peg_search.proofs.passes.find_best.Given as goal

abbrev pub invariant-loop-k : goal.invariant-loop-k
invariant-loop-k l = Finding l.rows l.positions l.places l.peg l.n l.k l.from l.best
