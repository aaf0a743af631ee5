-- `body_rows::bases::bases` meets its contract. The first k words say where their rows start. Assumes nothing.
use Prim.Native.Nat.{◌-◌}
use native.Mathlib.Omega.{arith}
use Rattle.body_rows.proofs.Starting.{starting_none, starting_more, starting_all}
use Rattle.body_rows.proofs.bases.bases.Goals as goal

pub loop-k-init : goal.loop-k-init
loop-k-init c = starting_none _ _ _

pub loop-k-preserved : goal.loop-k-preserved
loop-k-preserved c = starting_more c.requires.room c.loop-k.invariant (omega arith) c.number.ensures (omega arith)

pub returns : goal.returns
returns c = starting_all _ c.loop-k.invariant (omega arith)
