-- `body_rows::totals::total` meets its contract. The sum so far is that of the first k rows. Assumes nothing.
use Prim.Native.Nat.{◌-◌}
use native.Mathlib.Omega.{arith}
use Rattle.body_rows.proofs.Summing.{summing_none, summing_more, total_is}
use Rattle.body_rows.proofs.totals.total.Goals as goal

pub loop-k-init : goal.loop-k-init
loop-k-init c = search summing_none

pub loop-k-preserved : goal.loop-k-preserved
loop-k-preserved c = summing_more c.loop-k.invariant (omega arith) c.number.ensures (omega arith)

pub returns : goal.returns
returns c = total_is c.requires.rows c.loop-k.invariant (omega arith)
