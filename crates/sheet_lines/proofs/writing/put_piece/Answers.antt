-- `put_piece` meets its contract. Assumes nothing.
use Rattle.sheet_lines.proofs.WriteLaws.{put_itself, put_spaced}
use borrow.Author.Rules.{rules}
use Rattle.sheet_lines.proofs.writing.put_piece.Goals as goal

pub returns-then-numbers_of-eq0 : goal.returns-then-numbers_of-eq0
returns-then-numbers_of-eq0 c = search (rules, put_itself)

pub returns : goal.returns
returns c = search (rules, put_spaced)
