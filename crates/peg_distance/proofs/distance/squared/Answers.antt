-- `squared` meets its contract. Assumes nothing.
use borrow.Author.Rules.{rules}
use Rattle.peg_distance.proofs.DistanceLaws.{square_fits, squared_is}
use Rattle.peg_distance.proofs.distance.squared.Goals as goal

pub overflow_mul-result : goal.overflow_mul-result
overflow_mul-result c = search (rules, square_fits)

pub returns : goal.returns
returns c = search (rules, squared_is)
