-- `negate` meets its contract. Assumes nothing.
use native.Mathlib.Omega.{arith}
use Rattle.turn_reversal.proofs.ReverseLaws.{negating_none, negating_more, negating_all}
use Rattle.turn_reversal.proofs.reverse.negate.Goals as goal

pub loop-normal-init : goal.loop-normal-init
loop-normal-init c = negating_none

pub loop-normal-preserved : goal.loop-normal-preserved
loop-normal-preserved c = negating_more c.loop-normal.invariant (omega arith)

pub returns : goal.returns
returns c = negating_all c.loop-normal.invariant (omega arith)
