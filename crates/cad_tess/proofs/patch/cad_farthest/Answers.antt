-- `cad_farthest` meets its contract. Assumes nothing.
use Rattle.cad_tess.proofs.Laws.{farthest_struct}
use Rattle.cad_tess.proofs.patch.cad_farthest.Goals as goal

pub returns : goal.returns
returns c = search farthest_struct
