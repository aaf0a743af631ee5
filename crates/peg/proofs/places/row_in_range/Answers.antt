-- `row_in_range` meets its contract. Assumes nothing.
use Rattle.peg.proofs.RangeLaws.{row_tested}
use borrow.Author.Rules.{rules}
use Rattle.peg.proofs.places.row_in_range.Goals as goal

pub returns : goal.returns
returns c = search (rules, row_tested)
