-- `turn_visit::visit_row` meets its contract: what is left of the chain, visited from here, is the whole visit. Assumes nothing.
use Rattle.turn_walk.specs.Group.{visit_of}
use Rattle.turn_visit.proofs.Visiting.{Visiting, to_go}
use Rattle.turn_visit.proofs.visit_row.Given as goal

abbrev pub invariant-loop-p : goal.invariant-loop-p
invariant-loop-p l =
    Visiting l.regions.uses l.regions.rows l.x l.c l.fn.before.found l.fn.before.against l.initial.w
    (visit_of l.regions.uses l.regions.rows l.fn.before.found l.fn.before.against l.x l.initial.w) l.tally.found l.tally.against l.p l.w

abbrev pub decreases-loop-p : goal.decreases-loop-p
decreases-loop-p l = to_go l.regions.uses l.p
