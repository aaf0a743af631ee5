-- `fill_digits` meets its contract. Assumes nothing.
use Rattle.sheet_digit_writing.proofs.WriteLaws.{filled_none, filled_more, filled_all, small_digit}
use borrow.Author.Rules.{rules}
use Rattle.sheet_digit_writing.proofs.fill_digits.Goals as goal

pub loop-i-init : goal.loop-i-init
loop-i-init c = search (rules, filled_none)

pub digit_byte-requires : goal.digit_byte-requires
digit_byte-requires c = search (rules, small_digit)

pub loop-i-preserved : goal.loop-i-preserved
loop-i-preserved c = search (rules, filled_more)

pub returns : goal.returns
returns c = search (rules, filled_all)
