-- `patch_geometry::Aabb::diagonal` meets its contract. Assumes nothing.
use Rattle.patch_geometry.proofs.BoxLaws.{diagonal_is}
use Rattle.patch_geometry.proofs.Aabb.diagonal.Goals as goal

pub returns : goal.returns
returns c = search diagonal_is
