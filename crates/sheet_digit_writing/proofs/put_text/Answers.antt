-- `put_text` meets its contract. Assumes nothing.
use Rattle.sheet_digit_writing.proofs.WriteLaws.{texted_none, texted_room, texted_more, texted_all}
use borrow.Author.Rules.{rules}
use Rattle.sheet_digit_writing.proofs.put_text.Goals as goal

pub loop-b-init : goal.loop-b-init
loop-b-init c = search (rules, texted_none)

pub put_byte-next-requires : goal.put_byte-next-requires
put_byte-next-requires c = search (rules, texted_room)

pub loop-b-preserved : goal.loop-b-preserved
loop-b-preserved c = search (rules, texted_more)

pub returns : goal.returns
returns c = search (rules, texted_all)
