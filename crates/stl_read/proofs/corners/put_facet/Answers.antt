-- `put_facet` meets its contract. Assumes nothing.
use Rattle.stl_read.proofs.CornerLaws.{facet_put}
use Rattle.stl_read.proofs.corners.put_facet.Goals as goal

pub returns : goal.returns
returns c = search facet_put
