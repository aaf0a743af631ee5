-- `patch_volume::volume::triangle` meets its contract. Assumes nothing.
use Rattle.patch_volume.proofs.VolumeLaws.{triangle_reversed, triangle_kept, corners_reversed}
use Rattle.patch_volume.proofs.volume.triangle.Goals as goal

pub corners-requires : goal.corners-requires
corners-requires c = search corners_reversed

pub returns-then-flip : goal.returns-then-flip
returns-then-flip c = search triangle_reversed

pub returns : goal.returns
returns c = search triangle_kept
