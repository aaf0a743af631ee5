-- `apart` meets its contract. Assumes nothing.
use Rattle.peg_distance.proofs.DistanceLaws.{apart_above, apart_below, peg_scale}
use borrow.Author.Rules.{rules}
use Rattle.peg_distance.proofs.distance.apart.Goals as goal

pub nearest_word-w-requires : goal.nearest_word-w-requires
nearest_word-w-requires c = search (rules, peg_scale)

pub returns-then-w-target : goal.returns-then-w-target
returns-then-w-target c = search apart_below

pub returns-else-w-target : goal.returns-else-w-target
returns-else-w-target c = search apart_above
