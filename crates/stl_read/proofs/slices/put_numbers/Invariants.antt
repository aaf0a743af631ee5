-- `put_numbers` meets its contract. Assumes nothing.
use Rattle.stl_read.proofs.SliceLaws.{Numbered}
use Rattle.stl_read.proofs.slices.put_numbers.Given as goal

abbrev pub invariant-loop-k : goal.invariant-loop-k
invariant-loop-k l = Numbered l.n l.k l.initial.indices l.indices
