-- `any_out_of_range` meets its contract. Assumes nothing.
use Prim.Native.Nat.{◌-◌}
use Rattle.peg.proofs.RangeLaws.{ranging_all, ranging_hit, ranging_more, ranging_none, row_there}
use Rattle.peg.proofs.places.any_out_of_range.Goals as goal

pub loop-k-init : goal.loop-k-init
loop-k-init c = search ranging_none

pub row_in_range-requires : goal.row_in_range-requires
row_in_range-requires c = search row_there

pub returns-then-not-row_in_range : goal.returns-then-not-row_in_range
returns-then-not-row_in_range c = search ranging_hit

pub loop-k-preserved : goal.loop-k-preserved
loop-k-preserved c = search ranging_more

pub returns : goal.returns
returns c = search ranging_all
