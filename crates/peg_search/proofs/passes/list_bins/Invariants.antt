-- `list_bins` meets its contract. Assumes nothing.
use Prim.Native.Nat.{◌-◌}
use Rattle.peg_search.specs.Search.{body_hits}
use Rattle.peg_search.proofs.ListLaws.{Listing}
use Rattle.peg_search.proofs.passes.list_bins.Given as goal

abbrev pub invariant-loop-b : goal.invariant-loop-b
invariant-loop-b l = Listing (body_hits l.rows l.positions l.places l.peg) l.best l.initial.bins l.bins l.b l.i

abbrev pub decreases-loop-b : goal.decreases-loop-b
decreases-loop-b l = l.best.high - l.b
