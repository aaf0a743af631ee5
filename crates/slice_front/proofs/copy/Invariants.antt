-- With i items done, they stand in front and the rest is as it was. Assumes nothing.
use Rattle.lists.specs.Copied.{Copied}
use Rattle.slice_front.proofs.copy.Given as goal

abbrev pub invariant-loop-i : goal.invariant-loop-i
invariant-loop-i g l = Copied l.from l.initial.to l.to l.i
