-- `facet_not_finite` meets its contract. Assumes nothing.
use Rattle.stl_read.proofs.CornerLaws.{facet_any}
use Rattle.stl_read.proofs.corners.facet_not_finite.Goals as goal

pub returns : goal.returns
returns c = search facet_any
