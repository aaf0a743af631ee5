-- `settle_groups` meets its contract: after k rows the definition's walks go on at row k. Assumes nothing.
use Rattle.turn_groups.proofs.RootLaws.{walking_none, walking_root, walking_more, walking_all}
use Rattle.turn_groups.proofs.settling.settle_groups.Goals as goal

pub loop-k-init : goal.loop-k-init
loop-k-init c = search walking_none

pub settle_root-against-requires : goal.settle_root-against-requires
settle_root-against-requires c = search walking_root

pub loop-k-preserved : goal.loop-k-preserved
loop-k-preserved c = search walking_more

pub returns : goal.returns
returns c = search walking_all
