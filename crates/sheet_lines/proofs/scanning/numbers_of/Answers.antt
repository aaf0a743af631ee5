-- `numbers_of` meets its contract. Assumes nothing.
use Rattle.sheet_lines.proofs.PieceLaws.{count_byte, count_long, count_number, count_offset, count_short}
use borrow.Author.Rules.{rules}
use Rattle.sheet_lines.proofs.scanning.numbers_of.Goals as goal

pub returns-in-35 : goal.returns-in-35
returns-in-35 c = search (rules, count_number)

pub returns-in-36 : goal.returns-in-36
returns-in-36 c = search (rules, count_long)

pub returns-in-42 : goal.returns-in-42
returns-in-42 c = search (rules, count_short)

pub returns-in-37 : goal.returns-in-37
returns-in-37 c = search (rules, count_offset)

pub returns-in_default : goal.returns-in_default
returns-in_default c = search (rules, count_byte)
