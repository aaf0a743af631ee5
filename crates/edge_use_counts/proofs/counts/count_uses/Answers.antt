-- `count_uses` meets its contract: after use i the uses before it are counted. Assumes nothing.
use mathlib.Core.Path.{refl}
use Prim.Native.Nat.{◌-◌}
use Rattle.edge_use_counts.proofs.CountLaws.{cleared_ready, counting_none, step_ready, counting_more, counting_all}
use Rattle.edge_use_counts.proofs.counts.count_uses.Goals as goal

pub loop-i-init : goal.loop-i-init
loop-i-init c =
    counting_none c.requires refl c.fill.ensures

pub count_one-requires : goal.count_one-requires
count_one-requires c =
    let p = c.requires in
    step_ready (cleared_ready p refl c.fill.ensures) c.loop-i.invariant c.loop-i-test.true

pub loop-i-preserved : goal.loop-i-preserved
loop-i-preserved c =
    let p = c.requires in
    counting_more (cleared_ready p refl c.fill.ensures) c.loop-i.invariant c.loop-i-test.true c.count_one.ensures

pub returns : goal.returns
returns c =
    let p = c.requires in
    counting_all p refl c.fill.ensures c.loop-i.invariant c.loop-i-test.false
