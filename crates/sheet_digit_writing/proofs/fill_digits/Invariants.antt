-- `fill_digits` meets its contract. Assumes nothing.
use Rattle.sheet_digit_writing.proofs.WriteLaws.{Filled}
use Rattle.sheet_digit_writing.proofs.fill_digits.Given as goal

abbrev pub invariant-loop-i : goal.invariant-loop-i
invariant-loop-i l = Filled l.base l.k l.n l.room l.m l.i
