-- `turn_meet::meet_row` meets its contract, by its two tests. Assumes nothing.
use Rattle.turn_meet.proofs.Meeting.{meet_new, meet_same, meet_against}
use lib.ListN.{length-set}
use native.Mathlib.Omega.{arith}
use Rattle.turn_meet.proofs.meet_row.Goals as goal

pub bounds-w-colours-then-had-eq-UNVISITED : goal.bounds-w-colours-then-had-eq-UNVISITED
bounds-w-colours-then-had-eq-UNVISITED c = simp length-set (omega arith)

pub returns-then-had-eq-UNVISITED : goal.returns-then-had-eq-UNVISITED
returns-then-had-eq-UNVISITED c = rw (c.queue-queue.ensures, c.colours-colours.ensures) (meet_new c.requires (rw c.colours-colours.ensures at c.if-had-eq-UNVISITED.true))

pub returns-then-had-c : goal.returns-then-had-c
returns-then-had-c c = meet_same c.requires (rw c.colours-colours.ensures at c.if-had-eq-UNVISITED.false) (rw c.colours-colours.ensures at c.if-had-c.true)

pub returns : goal.returns
returns c = meet_against c.requires (rw c.colours-colours.ensures at c.if-had-eq-UNVISITED.false) (rw c.colours-colours.ensures at c.if-had-c.false)
