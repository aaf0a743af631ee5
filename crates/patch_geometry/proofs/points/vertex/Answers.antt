-- `patch_geometry::turn_volume_rule::vertex` meets its contract. Assumes nothing.
use Rattle.patch_geometry.proofs.points.vertex.Goals as goal

pub returns : goal.returns
returns c = cc
