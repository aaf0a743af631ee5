-- `patch_geometry::Vec3::length` meets its contract. Assumes nothing.
use Rattle.patch_geometry.proofs.BoxLaws.{length_is}
use Rattle.patch_geometry.proofs.Vec3.length.Goals as goal

pub returns : goal.returns
returns c = search length_is
