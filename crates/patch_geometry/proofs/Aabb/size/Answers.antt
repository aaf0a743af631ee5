-- `patch_geometry::Aabb::size` meets its contract. Assumes nothing.
use Rattle.patch_geometry.proofs.BoxLaws.{size_empty, size_is}
use Rattle.patch_geometry.proofs.Aabb.size.Goals as goal

pub returns-then-is_empty : goal.returns-then-is_empty
returns-then-is_empty c = search size_empty

pub returns : goal.returns
returns c = search size_is
