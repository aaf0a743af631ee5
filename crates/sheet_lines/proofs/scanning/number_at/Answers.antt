-- `number_at` meets its contract. Assumes nothing.
use Rattle.sheet_lines.specs.Forms.{Bits, Number, Offset}
use Rattle.sheet_lines.specs.Pattern.{read_number}
use Rattle.sheet_lines.proofs.PieceLaws.{number_as, number_none, piece_long, piece_number, piece_offset, piece_short}
use borrow.Author.Rules.{rules}
use Rattle.sheet_lines.proofs.scanning.number_at.Goals as goal

pub returns-in-35 : goal.returns-in-35
unfolding read_number
returns-in-35 c = search (rules, number_as Number, piece_number)

pub returns-in-36 : goal.returns-in-36
unfolding read_number
returns-in-36 c = search (rules, number_as (Bits 16), piece_long)

pub returns-in-42 : goal.returns-in-42
unfolding read_number
returns-in-42 c = search (rules, number_as (Bits 8), piece_short)

pub returns-in-37 : goal.returns-in-37
unfolding read_number
returns-in-37 c = search (rules, number_as Offset, piece_offset)

pub returns-in_default : goal.returns-in_default
unfolding read_number
returns-in_default c = search (rules, number_none)
