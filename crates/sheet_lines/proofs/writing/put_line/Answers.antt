-- `put_line` meets its contract. Assumes nothing.
use Rattle.sheet_lines.proofs.WriteLaws.{line_ended}
use borrow.Author.Rules.{rules}
use Rattle.sheet_lines.proofs.writing.put_line.Goals as goal

pub returns : goal.returns
returns c = search (rules, line_ended)
