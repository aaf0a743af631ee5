-- `join_table::join_table` meets its contract. Assumes nothing.
use Rattle.join_table.proofs.Chains.{progress_none, progress_turn, progress_more, progress_all}
use Rattle.join_table.proofs.join_table.Goals as goal

pub loop-i-init : goal.loop-i-init
loop-i-init c = search progress_none

pub join_one-requires : goal.join_one-requires
join_one-requires c = search progress_turn

pub loop-i-preserved : goal.loop-i-preserved
loop-i-preserved c = search progress_more

pub returns : goal.returns
returns c = search progress_all
