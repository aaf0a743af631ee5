-- `put_failures` meets its contract. Assumes nothing.
use Rattle.sheet_answer_rows.specs.Rows.{failure_at}
use Rattle.sheet_answer_rows.proofs.RowLaws.{Lined}
use Rattle.sheet_answer_rows.proofs.put_failures.Given as goal

abbrev pub invariant-loop-row : goal.invariant-loop-row
invariant-loop-row l = Lined (λ row. failure_at row 0) l.initial.out l.at l.rows l.out l.next l.row-index
