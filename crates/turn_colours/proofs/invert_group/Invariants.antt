-- `turn_colours::invert_group` meets its contract: the rest of the queue, inverted from here, is the whole group inverted. Assumes nothing.
use Rattle.turn_colours.proofs.Colouring.{Inverting}
use Rattle.turn_colours.proofs.invert_group.Given as goal

abbrev pub invariant-loop-k : goal.invariant-loop-k
invariant-loop-k l = Inverting l.fn.regions.uses l.fn.regions.rows l.t l.initial.w l.k l.w
