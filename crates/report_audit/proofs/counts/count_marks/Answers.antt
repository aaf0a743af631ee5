-- `count_marks` meets its contract: after use i the marks of the uses before it are counted. Assumes nothing.
use mathlib.Core.Path.{refl}
use Prim.Native.Nat.{◌-◌}
use Rattle.report_audit.proofs.CountLaws.{cleared_ready, counting_none, mark_ready, counting_more, counting_all}
use Rattle.report_audit.proofs.counts.count_marks.Goals as goal

pub loop-i-init : goal.loop-i-init
loop-i-init c =
    counting_none c.requires refl c.fill.ensures

pub mark_use-requires : goal.mark_use-requires
mark_use-requires c =
    mark_ready (cleared_ready c.requires refl c.fill.ensures) c.loop-i.invariant c.loop-i-test.true

pub loop-i-preserved : goal.loop-i-preserved
loop-i-preserved c =
    counting_more (cleared_ready c.requires refl c.fill.ensures) c.loop-i.invariant c.loop-i-test.true c.mark_use.ensures

pub returns : goal.returns
returns c =
    counting_all c.requires refl c.fill.ensures c.loop-i.invariant c.loop-i-test.false
