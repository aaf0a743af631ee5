-- `weigh` meets its contract: after k rows of the queue their weights are added. Assumes nothing.
use native.Mathlib.Omega.{arith}
use Rattle.turn_inversion.proofs.VolumeLaws.{queue_row, queue_here, queue_long, weighing_none, weighing_more, weighing_all}
use Rattle.turn_inversion.proofs.volume.weigh.Goals as goal

pub loop-k-init : goal.loop-k-init
loop-k-init c = weighing_none _ _ _ _

pub queued-x-requires : goal.queued-x-requires
queued-x-requires c =
    let p = c.requires in
    record { room = p.room; inside = omega (arith, c.loop-k-test.true, p.queue.low) }

pub weight-requires : goal.weight-requires
weight-requires c =
    let p = c.requires in
    record { count = p.count; room = p.room; row = omega (arith, c.queued-x.ensures, queue_row p.queue p.room c.loop-k-test.true) }

pub overflow_add-sum : goal.overflow_add-sum
overflow_add-sum c =
    let p = c.requires in
    omega (arith, c.loop-k.invariant.low, c.loop-k-test.true, p.queue.low, p.count, p.rows.few)

pub loop-k-preserved : goal.loop-k-preserved
loop-k-preserved c =
    let p = c.requires in
    weighing_more c.loop-k.invariant (queue_here p.queue p.room c.loop-k-test.true) c.queued-x.ensures c.weight.ensures (omega arith)

pub returns : goal.returns
returns c =
    let s = c.args in
    weighing_all c.loop-k.invariant (queue_long s.regions.uses s.regions.rows s.t s.w.now c.loop-k-test.false)
