-- `cad_escapes_body` meets its contract. Assumes nothing.
use Rattle.cad_tess.proofs.Laws.{escapes_struct}
use Rattle.cad_tess.proofs.patch.cad_escapes_body.Goals as goal

pub returns : goal.returns
returns c = search escapes_struct
