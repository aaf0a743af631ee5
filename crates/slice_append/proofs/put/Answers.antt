-- `put` meets its contract. Assumes nothing.
use mathlib.Core.Path.{sym, subst}
use Prim.Native.Nat.{◌+◌}
use lib.ListN.{set}
use native.Mathlib.Omega.{arith}
use Rattle.slice_append.specs.Appended.{appended_sets}
use Rattle.slice_append.proofs.PutLaws.{Putting, putting_none, putting_more, putting_all}
use Rattle.slice_append.proofs.put.Goals as goal

pub loop-k-init : goal.loop-k-init
loop-k-init g c = putting_none _ _ _

pub loop-k-preserved : goal.loop-k-preserved
loop-k-preserved g c =
    let i = c.index-items-k in
    subst (λ (x : g.row.T.Denot). Putting c.args.items.now c.args.out.now c.args.o (c.loop-k.k + 1) (set c.loop-k.out (c.args.o + c.loop-k.k) x)) (sym i.is)
    (putting_more i.result c.loop-k.invariant c.loop-k-test.true)

pub returns-clause-appended : goal.returns-clause-appended
returns-clause-appended g c = appended_sets (omega arith) (putting_all c.loop-k.invariant (omega (arith, c.loop-k-test.false)))

pub returns-clause-stored : goal.returns-clause-stored
returns-clause-stored g c = putting_all c.loop-k.invariant (omega (arith, c.loop-k-test.false))
