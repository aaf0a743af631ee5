-- `reach::reach::reach_from` meets its contract. What is left to look at gives the same reach at each turn, from the root of the square so far. Assumes nothing.
use Rattle.patch_reach.proofs.ReachLaws.{reaching_none, reaching_more, reaching_all}
use Rattle.patch_reach.proofs.reach.reach_from.Goals as goal

pub loop-i-init : goal.loop-i-init
loop-i-init c = search reaching_none

pub loop-i-preserved : goal.loop-i-preserved
loop-i-preserved c = search reaching_more

pub returns : goal.returns
returns c = search reaching_all
