-- `put_form` meets its contract. Assumes nothing.
use Rattle.sheet_lines.proofs.WriteLaws.{Formed}
use Rattle.sheet_lines.proofs.writing.put_form.Given as goal

abbrev pub invariant-loop-p : goal.invariant-loop-p
invariant-loop-p l = Formed l.initial.out l.at l.form l.numbers l.out l.next l.count l.p-index
