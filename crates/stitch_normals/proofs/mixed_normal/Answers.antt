-- `stitch_normals::mixed_normal` meets its contract. Assumes nothing.
use Rattle.stitch_projection.specs.Projection.{least_length}
use Rattle.stitch_normals.proofs.MixLaws.{mixed_is}
use Rattle.stitch_normals.proofs.mixed_normal.Goals as goal

pub returns : goal.returns
unfolding least_length
returns c = search mixed_is
