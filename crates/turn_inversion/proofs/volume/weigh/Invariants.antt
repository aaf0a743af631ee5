-- `weigh` meets its contract: after k rows of the queue their weights are added. Assumes nothing.
use Rattle.turn_walk.specs.Group.{queue_of, colours_of}
use Rattle.turn_inversion.proofs.VolumeLaws.{Weighing}
use Rattle.turn_inversion.proofs.volume.weigh.Given as goal

abbrev pub invariant-loop-k : goal.invariant-loop-k
invariant-loop-k l = Weighing l.rows (colours_of l.regions.uses l.regions.rows l.w) (queue_of l.regions.uses l.regions.rows l.t l.w) l.c l.k l.sum
