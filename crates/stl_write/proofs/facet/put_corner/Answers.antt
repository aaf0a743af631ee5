-- `put_corner` meets its contract. Assumes nothing.
use Rattle.stl_write.proofs.ByteLaws.{corner_put}
use Rattle.stl_write.proofs.facet.put_corner.Goals as goal

pub returns : goal.returns
returns c = search corner_put
