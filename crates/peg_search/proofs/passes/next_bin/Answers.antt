-- `next_bin` meets its contract. Assumes nothing.
use Prim.Native.Nat.{◌-◌}
use Rattle.peg_search.proofs.NextLaws.{bin_there, lowering_all, lowering_more, lowering_none}
use Rattle.peg_search.proofs.passes.next_bin.Goals as goal

pub loop-k-init : goal.loop-k-init
loop-k-init c = search lowering_none

pub bin-requires : goal.bin-requires
bin-requires c = search bin_there

pub loop-k-preserved : goal.loop-k-preserved
loop-k-preserved c = search lowering_more

pub returns : goal.returns
returns c = search lowering_all
