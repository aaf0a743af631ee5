-- `decimal_digit` meets its contract. Assumes nothing.
use Rattle.sheet_digit_reading.proofs.ReadLaws.{decimal_there, decimal_low, decimal_high}
use borrow.Author.Rules.{rules}
use Rattle.sheet_digit_reading.proofs.decimal_digit.Goals as goal

pub returns-in-48-to-57 : goal.returns-in-48-to-57
returns-in-48-to-57 c = search (rules, decimal_there)

pub returns-in_default : goal.returns-in_default
returns-in_default c = search (rules, decimal_low, decimal_high)

pub returns-in_default-2 : goal.returns-in_default-2
returns-in_default-2 c = search (rules, decimal_low, decimal_high)
