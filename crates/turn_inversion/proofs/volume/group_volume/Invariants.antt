-- `group_volume` meets its contract: after k rows of the queue their volumes are added. Assumes nothing.
use Rattle.body_rows.specs.Patches.{shapes}
use Rattle.turn_walk.specs.Group.{queue_of, colours_of}
use Rattle.turn_inversion.proofs.VolumeLaws.{Summing}
use Rattle.turn_inversion.proofs.volume.group_volume.Given as goal

abbrev pub invariant-loop-k : goal.invariant-loop-k
invariant-loop-k l = Summing (shapes l.rows l.positions l.indices) (colours_of l.regions.uses l.regions.rows l.w) (queue_of l.regions.uses l.regions.rows l.t l.w) l.k l.v
