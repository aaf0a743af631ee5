-- `read_hex` meets its contract. Assumes nothing.
use Rattle.sheet_digit_reading.proofs.ReadLaws.{Hexed}
use Rattle.sheet_digit_reading.proofs.read_hex.Given as goal

abbrev pub invariant-loop-c : goal.invariant-loop-c
invariant-loop-c l = Hexed l.text l.at l.k l.value l.c-index
