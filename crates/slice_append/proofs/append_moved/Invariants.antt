-- `append_moved` meets its contract. With k indices done, those of the stretch, moved, stand from place o on and the rest is as it was. Assumes nothing.
use Rattle.slice_append.proofs.StretchLaws.{Moving}
use Rattle.slice_append.proofs.append_moved.Given as goal

abbrev pub invariant-loop-k : goal.invariant-loop-k
invariant-loop-k l = Moving l.from l.start l.end l.base l.o l.initial.out l.k l.out
