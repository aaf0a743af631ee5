-- `turn_colours::invert_group` meets its contract: the rest of the queue, inverted from here, is the whole group inverted. Assumes nothing.
use Rattle.turn_colours.proofs.Colouring.{inverting_none, row_index, row_known, inverting_more, inverting_all}
use native.Mathlib.Omega.{arith}
use Rattle.turn_colours.proofs.invert_group.Goals as goal

pub loop-k-init : goal.loop-k-init
loop-k-init c = search inverting_none

pub overflow_add-colours : goal.overflow_add-colours
overflow_add-colours c = rw (c.queue-queue.ensures, c.colours-colours.ensures) (omega (arith, row_index c.requires c.loop-k.invariant c.loop-k-test.true))

pub offset_bounds-w-colours : goal.offset_bounds-w-colours
offset_bounds-w-colours c = rw (c.queue-queue.ensures, c.colours-colours.ensures) (omega (arith, row_index c.requires c.loop-k.invariant c.loop-k-test.true))

pub bounds-w-colours : goal.bounds-w-colours
bounds-w-colours c = rw (c.queue-queue.ensures, c.colours-colours.ensures) (row_index c.requires c.loop-k.invariant c.loop-k-test.true)

pub opposite_colour-requires : goal.opposite_colour-requires
opposite_colour-requires c = rw (c.queue-queue.ensures, c.colours-colours.ensures) (row_known c.requires c.loop-k.invariant c.loop-k-test.true)

pub overflow_add-w : goal.overflow_add-w
overflow_add-w c = rw (c.queue-queue.ensures, c.colours-colours.ensures) (omega (arith, row_index c.requires c.loop-k.invariant c.loop-k-test.true))

pub offset_bounds-w-colours-in-loop-k : goal.offset_bounds-w-colours-in-loop-k
offset_bounds-w-colours-in-loop-k c = rw (c.queue-queue.ensures, c.colours-colours.ensures) (omega (arith, row_index c.requires c.loop-k.invariant c.loop-k-test.true))

pub bounds-w-colours-in-loop-k : goal.bounds-w-colours-in-loop-k
bounds-w-colours-in-loop-k c = rw (c.queue-queue.ensures, c.colours-colours.ensures) (row_index c.requires c.loop-k.invariant c.loop-k-test.true)

pub loop-k-preserved : goal.loop-k-preserved
loop-k-preserved c =
    rw (c.queue-queue.ensures, c.colours-colours.ensures) (inverting_more c.requires c.loop-k.invariant c.loop-k-test.true _ (rw (c.queue-queue.ensures, c.colours-colours.ensures) at c.opposite_colour.ensures))

pub returns : goal.returns
returns c = search inverting_all
