-- `join_table::find` meets its contract. Assumes nothing.
use Rattle.join_table.proofs.Chains.{walk_compares, walk_less, walk_more, walk_hit, walk_miss}
use Rattle.join_table.proofs.find.Goals as goal

pub same_name-requires : goal.same_name-requires
same_name-requires c = search walk_compares

pub returns-then-same_name : goal.returns-then-same_name
returns-then-same_name c = search walk_hit

pub loop-p-smaller : goal.loop-p-smaller
loop-p-smaller c = search walk_less

pub loop-p-preserved : goal.loop-p-preserved
loop-p-preserved c = search walk_more

pub returns : goal.returns
returns c = search walk_miss
