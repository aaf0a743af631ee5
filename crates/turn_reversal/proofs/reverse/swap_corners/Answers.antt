-- `swap_corners` meets its contract. Assumes nothing.
use native.Mathlib.Omega.{arith}
use Rattle.turn_reversal.proofs.ReverseLaws.{swapping_none, swapping_more, swapping_all}
use Rattle.turn_reversal.proofs.reverse.swap_corners.Goals as goal

pub loop-k-init : goal.loop-k-init
loop-k-init c = swapping_none

pub loop-k-preserved : goal.loop-k-preserved
loop-k-preserved c = search swapping_more

pub returns : goal.returns
returns c = search swapping_all

pub returns-2 : goal.returns-2
returns-2 c = swapping_all (swapping_more c.requires c.loop-k.invariant c.loop-k-test.true c.swap.ensures.after) (omega arith)
