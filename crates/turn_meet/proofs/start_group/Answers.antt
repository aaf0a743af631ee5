-- `turn_meet::start_group` meets its contract: an empty queue with one row more. Assumes nothing.
use Rattle.turn_meet.proofs.Meeting.{started}
use lib.ListN.{length-set}
use native.Mathlib.Omega.{arith}
use Rattle.turn_meet.proofs.start_group.Goals as goal

pub bounds-w-colours : goal.bounds-w-colours
bounds-w-colours c = simp length-set (omega arith)

pub returns : goal.returns
returns c = search (started, c.queue-queue.ensures, c.colours-colours.ensures)
