-- `axis_target` meets its contract. Assumes nothing.
use Rattle.peg_distance.proofs.TargetLaws.{axis_aim, place_low}
use borrow.Author.Rules.{rules}
use Rattle.peg_distance.proofs.target.axis_target.Goals as goal

pub overflow_sub-result : goal.overflow_sub-result
overflow_sub-result c = search (rules, place_low)

pub returns : goal.returns
returns c = search axis_aim
