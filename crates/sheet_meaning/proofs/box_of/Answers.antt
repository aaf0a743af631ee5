-- `box_of` meets its contract. Assumes nothing.
use Rattle.sheet_meaning.proofs.FloatLaws.{box_is}
use borrow.Author.Rules.{rules}
use Rattle.sheet_meaning.proofs.box_of.Goals as goal

pub returns : goal.returns
returns c = search (rules, box_is)
