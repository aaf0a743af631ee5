-- With k items done, they stand from place o on and the rest is as it was. Assumes nothing.
use Rattle.slice_append.proofs.PutLaws.{Putting}
use Rattle.slice_append.proofs.put.Given as goal

abbrev pub invariant-loop-k : goal.invariant-loop-k
invariant-loop-k g l = Putting l.items l.initial.out l.o l.k l.out
