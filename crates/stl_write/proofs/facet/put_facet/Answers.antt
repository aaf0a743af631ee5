-- `put_facet` meets its contract. Assumes nothing.
use Rattle.stl_write.proofs.ByteLaws.{facet_put}
use Rattle.stl_write.proofs.facet.put_facet.Goals as goal

pub returns : goal.returns
returns c = search facet_put
