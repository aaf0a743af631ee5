-- `put_byte` meets its contract. Assumes nothing.
use Rattle.sheet_digit_writing.proofs.WriteLaws.{wrote_byte, wrote_full}
use borrow.Author.Rules.{rules}
use Rattle.sheet_digit_writing.proofs.put_byte.Goals as goal

pub returns-then-at-out : goal.returns-then-at-out
returns-then-at-out c = search (rules, wrote_byte)

pub returns : goal.returns
returns c = search (rules, wrote_full)
