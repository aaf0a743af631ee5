-- `reach::reach::farthest` meets its contract. Assumes nothing.
use Rattle.patch_reach.proofs.ReachLaws.{farthest_empty, farthest_is}
use Rattle.patch_reach.proofs.reach.farthest.Goals as goal

pub returns-then-is_empty : goal.returns-then-is_empty
returns-then-is_empty c = search farthest_empty

pub returns : goal.returns
returns c = search farthest_is
