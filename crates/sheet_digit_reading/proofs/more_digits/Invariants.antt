-- `more_digits` meets its contract. Assumes nothing.
use Rattle.sheet_digit_reading.proofs.ReadLaws.{Tens}
use Rattle.sheet_digit_reading.proofs.more_digits.Given as goal

abbrev pub invariant-loop-i : goal.invariant-loop-i
invariant-loop-i l = Tens l.text l.at l.before l.most l.value l.i
