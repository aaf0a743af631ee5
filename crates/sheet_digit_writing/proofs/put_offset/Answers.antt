-- `put_offset` meets its contract. Assumes nothing.
use Rattle.sheet_digit_writing.proofs.WriteLaws.{offset_beneath, offset_above}
use borrow.Author.Rules.{rules}
use Rattle.sheet_digit_writing.proofs.put_offset.Goals as goal

pub returns-then-n-lt-FARTHEST : goal.returns-then-n-lt-FARTHEST
returns-then-n-lt-FARTHEST c = search (rules, offset_beneath)

pub returns : goal.returns
returns c = search (rules, offset_above)
