-- `float_sqrt::root::root_by_digits` meets its contract. Assumes nothing.
use Rattle.float_sqrt.proofs.Digits.{Taken}
use Rattle.float_sqrt.proofs.root.root_by_digits.Given as goal

abbrev pub invariant-loop-i : goal.invariant-loop-i
invariant-loop-i l = Taken l.n l.left l.s l.r l.i
