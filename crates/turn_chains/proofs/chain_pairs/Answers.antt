-- `turn_chains::chain_pairs` meets its contract: the uses from `i` on are in the chains. Assumes nothing.
use Rattle.turn_chains.proofs.Chaining.{chaining_none, chaining_next, chaining_more, chaining_all}
use Rattle.turn_chains.proofs.chain_pairs.Goals as goal

pub loop-i-init : goal.loop-i-init
loop-i-init c = search chaining_none

pub chain_use-requires : goal.chain_use-requires
chain_use-requires c = search chaining_next

pub loop-i-preserved : goal.loop-i-preserved
loop-i-preserved c = search chaining_more

pub returns : goal.returns
returns c = search chaining_all
