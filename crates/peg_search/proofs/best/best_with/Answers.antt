-- `best_with` meets its contract. Assumes nothing.
use Rattle.peg_search.proofs.SmallLaws.{best_farther, best_higher, best_lower, best_nearer, best_same}
use Rattle.peg_search.proofs.best.best_with.Goals as goal

pub returns-then-square-best : goal.returns-then-square-best
returns-then-square-best c = search best_nearer

pub returns-then-best-square : goal.returns-then-best-square
returns-then-best-square c = search best_farther

pub returns-then-bin-best : goal.returns-then-bin-best
returns-then-bin-best c = search best_lower

pub returns-then-best-bin : goal.returns-then-best-bin
returns-then-best-bin c = search best_higher

pub returns : goal.returns
returns c = search best_same
