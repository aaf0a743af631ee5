-- `group_volume` meets its contract: after k rows of the queue their volumes are added. Assumes nothing.
use native.Mathlib.Omega.{arith}
use Rattle.turn_inversion.proofs.VolumeLaws.{queue_row, queue_here, queue_long, summing_none, summing_more, summing_all}
use Rattle.turn_inversion.proofs.volume.group_volume.Goals as goal

pub loop-k-init : goal.loop-k-init
loop-k-init c = summing_none _ _ _

pub queued-x-requires : goal.queued-x-requires
queued-x-requires c =
    let p = c.requires in
    record { room = omega (arith, p.given.room); inside = omega (arith, c.loop-k-test.true, p.queue.low) }

pub colour-c-requires : goal.colour-c-requires
colour-c-requires c =
    let p = c.requires in
    record { room = omega (arith, p.given.room); inside = omega (arith, c.queued-x.ensures, queue_row p.queue (omega (arith, p.given.room)) c.loop-k-test.true) }

pub row_volume-v-requires : goal.row_volume-v-requires
row_volume-v-requires c =
    let p = c.requires in
    record { given = p.given; row = omega (arith, c.queued-x.ensures, queue_row p.queue (omega (arith, p.given.room)) c.loop-k-test.true) }

pub loop-k-preserved : goal.loop-k-preserved
loop-k-preserved c =
    let p = c.requires in
    summing_more c.loop-k.invariant (queue_here p.queue (omega (arith, p.given.room)) c.loop-k-test.true) c.queued-x.ensures c.colour-c.ensures c.row_volume-v.ensures

pub returns : goal.returns
returns c =
    let s = c.args in
    summing_all c.loop-k.invariant (queue_long s.regions.uses s.regions.rows s.t s.w.now c.loop-k-test.false)
