-- `add_row` meets its contract. Assumes nothing.
use Rattle.sheet_line_effects.proofs.TakeLaws.{row_added}
use borrow.Author.Rules.{rules}
use Rattle.sheet_line_effects.proofs.add_row.Goals as goal

pub returns : goal.returns
returns c = search (rules, row_added)
