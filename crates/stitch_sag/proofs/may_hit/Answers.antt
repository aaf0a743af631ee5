-- `may_hit` meets its contract. Assumes nothing.
use Rattle.stitch_sag.proofs.SagLaws.{ruled_both}
use Rattle.stitch_projection.specs.Projection.{near_end, far_end}
use Rattle.stitch_sag.proofs.may_hit.Goals as goal

pub returns : goal.returns
unfolding near_end far_end
returns c = search ruled_both
