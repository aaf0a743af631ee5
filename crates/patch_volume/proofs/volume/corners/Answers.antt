-- `patch_volume::volume::corners` meets its contract. Assumes nothing.
use Rattle.patch_volume.proofs.VolumeLaws.{corners_are}
use Rattle.patch_volume.proofs.volume.corners.Goals as goal

pub returns : goal.returns
returns c = search corners_are
