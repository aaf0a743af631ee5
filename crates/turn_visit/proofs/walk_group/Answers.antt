-- `turn_visit::walk_group` meets its contract: the definition, gone on with from here, is the whole walk. Assumes nothing.
use Rattle.turn_visit.proofs.Walking.{walking_none, walking_next, walking_more, walking_all}
use native.Mathlib.Omega.{arith}
use Rattle.turn_visit.proofs.walk_group.Goals as goal

pub loop-done-init : goal.loop-done-init
loop-done-init c = search walking_none

pub visit_row-tally-requires : goal.visit_row-tally-requires
visit_row-tally-requires c = rw c.queue-queue.ensures (walking_next c.loop-done.invariant c.loop-done-test.true c.requires)

pub loop-done-preserved : goal.loop-done-preserved
loop-done-preserved c = walking_more c.loop-done.invariant c.loop-done-test.true (rw c.queue-queue.ensures at c.visit_row-tally.ensures) (omega arith)

pub returns : goal.returns
returns c = search walking_all
