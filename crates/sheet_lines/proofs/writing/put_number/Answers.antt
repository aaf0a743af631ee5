-- `put_number` meets its contract. Assumes nothing.
use Rattle.sheet_lines.specs.Forms.{Bits, Number, Offset}
use Rattle.sheet_lines.specs.Pattern.{print_number}
use Rattle.sheet_lines.proofs.PieceLaws.{piece_long, piece_number, piece_offset, piece_short}
use Rattle.sheet_lines.proofs.WriteLaws.{put_as, put_none}
use borrow.Author.Rules.{rules}
use Rattle.sheet_lines.proofs.writing.put_number.Goals as goal

pub returns-in-35 : goal.returns-in-35
unfolding print_number
returns-in-35 c = search (rules, put_as Number, piece_number)

pub returns-in-36 : goal.returns-in-36
unfolding print_number
returns-in-36 c = search (rules, put_as (Bits 16), piece_long)

pub returns-in-42 : goal.returns-in-42
unfolding print_number
returns-in-42 c = search (rules, put_as (Bits 8), piece_short)

pub returns-in-37 : goal.returns-in-37
unfolding print_number
returns-in-37 c = search (rules, put_as Offset, piece_offset)

pub returns-in_default : goal.returns-in_default
unfolding print_number
returns-in_default c = search (rules, put_none)
