-- `put_text` meets its contract. Assumes nothing.
use Rattle.sheet_digit_writing.proofs.WriteLaws.{Texted}
use Rattle.sheet_digit_writing.proofs.put_text.Given as goal

abbrev pub invariant-loop-b : goal.invariant-loop-b
invariant-loop-b l = Texted l.initial.out l.at l.text l.out l.next l.b-index
