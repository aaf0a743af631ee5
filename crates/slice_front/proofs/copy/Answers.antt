-- `copy` meets its contract. Assumes nothing.
use mathlib.Core.Path.{sym, subst}
use Prim.Native.Nat.{◌+◌}
use lib.ListN.{set}
use Rattle.lists.specs.Copied.{Copied, copied_all, copied_full, copied_more, copied_none}
use Rattle.slice_front.proofs.copy.Goals as goal

pub loop-i-init : goal.loop-i-init
loop-i-init g c = copied_none _ _

pub returns-then-to-i : goal.returns-then-to-i
returns-then-to-i g c = copied_full c.loop-i.invariant c.loop-i-test.true c.if-to-i.true

pub loop-i-preserved : goal.loop-i-preserved
loop-i-preserved g c =
    let x = c.index-from-i in
    subst (λ (d : g.row.T.Denot). Copied c.args.from.now c.args.to.now (set c.loop-i.to c.loop-i.i d) (c.loop-i.i + 1)) (sym x.is)
    (copied_more c.loop-i.invariant x.result c.loop-i-test.true c.if-to-i.false)

pub returns : goal.returns
returns g c = copied_all c.loop-i.invariant c.loop-i-test.false
