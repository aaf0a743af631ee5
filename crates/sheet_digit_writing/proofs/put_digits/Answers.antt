-- `put_digits` meets its contract. Assumes nothing.
use Rattle.sheet_digit_writing.proofs.WriteLaws.{wrote_digits}
use borrow.Author.Rules.{rules}
use Rattle.sheet_digit_writing.proofs.put_digits.Goals as goal

pub returns : goal.returns
returns c = search (rules, wrote_digits)
