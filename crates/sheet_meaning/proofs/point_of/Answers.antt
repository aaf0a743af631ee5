-- `point_of` meets its contract. Assumes nothing.
use Rattle.sheet_meaning.proofs.FloatLaws.{point_is}
use borrow.Author.Rules.{rules}
use Rattle.sheet_meaning.proofs.point_of.Goals as goal

pub returns : goal.returns
returns c = search (rules, point_is)
