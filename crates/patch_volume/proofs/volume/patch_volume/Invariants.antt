-- `patch_volume::volume::patch_volume` meets its contract. What is left to add to the total is the same at each turn. Assumes nothing.
use Rattle.patch_volume.proofs.VolumeLaws.{Summing}
use Rattle.patch_volume.proofs.volume.patch_volume.Given as goal

abbrev pub invariant-loop-a : goal.invariant-loop-a
invariant-loop-a l = Summing l.positions l.indices l.flip l.a-index l.total
