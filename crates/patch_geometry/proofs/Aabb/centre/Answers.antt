-- `patch_geometry::Aabb::centre` meets its contract. Assumes nothing.
use Rattle.patch_geometry.proofs.BoxLaws.{centre_empty, centre_is}
use Rattle.patch_geometry.proofs.Aabb.centre.Goals as goal

pub returns-then-is_empty : goal.returns-then-is_empty
returns-then-is_empty c = search centre_empty

pub returns : goal.returns
returns c = search centre_is
