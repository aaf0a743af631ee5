-- `put_decimal` meets its contract. Assumes nothing.
use Rattle.sheet_digit_writing.proofs.WriteLaws.{wrote_decimal}
use borrow.Author.Rules.{rules}
use Rattle.sheet_digit_writing.proofs.put_decimal.Goals as goal

pub returns : goal.returns
returns c = search (rules, wrote_decimal)
