-- `count_digits` meets its contract. Assumes nothing.
use Rattle.sheet_digit_writing.proofs.WriteLaws.{digits_none, digits_some}
use borrow.Author.Rules.{rules}
use Rattle.sheet_digit_writing.proofs.count_digits.Goals as goal

pub returns-then-n-eq0 : goal.returns-then-n-eq0
returns-then-n-eq0 c = search (rules, digits_none)

pub returns-else-n-eq0 : goal.returns-else-n-eq0
returns-else-n-eq0 c = search (rules, digits_some)
