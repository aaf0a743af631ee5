-- `put_ranges` meets its contract. Assumes nothing.
use Rattle.sheet_lines.specs.Forms.{line}
use Rattle.sheet_answer_rows.specs.Rows.{four_at, range_form}
use Rattle.sheet_answer_rows.proofs.RowLaws.{Lined}
use Rattle.sheet_answer_rows.proofs.put_ranges.Given as goal

abbrev pub invariant-loop-row : goal.invariant-loop-row
invariant-loop-row l = Lined (λ row. line range_form (four_at row 0)) l.initial.out l.at l.rows l.out l.next l.row-index
