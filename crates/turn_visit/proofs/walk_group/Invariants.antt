-- `turn_visit::walk_group` meets its contract: the definition, gone on with from here, is the whole walk. Assumes nothing.
use Rattle.turn_walk.specs.Group.{walk_of}
use Rattle.turn_walk.specs.Area.{uses_of}
use Rattle.turn_walk.specs.Uses.{pairs_by}
use Rattle.turn_walk.specs.Walk.{walk}
use Rattle.turn_visit.proofs.Walking.{Walking}
use Prim.Native.Nat.{◌-◌}
use Rattle.turn_visit.proofs.walk_group.Given as goal

abbrev pub invariant-loop-done : goal.invariant-loop-done
invariant-loop-done l =
    Walking l.regions.uses l.regions.rows l.fn.against l.initial.w
    (walk (pairs_by (uses_of l.regions.uses l.initial.w)) l.regions.rows 0 (walk_of l.regions.uses l.regions.rows 1 l.fn.against l.initial.w))
    l.tally.found l.tally.against l.done l.w

abbrev pub decreases-loop-done : goal.decreases-loop-done
decreases-loop-done l = l.regions.rows - l.done
