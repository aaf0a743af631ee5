-- `cad_assemble` meets its contract. The struct tells all that the definition says. Assumes nothing.
use Rattle.cad_tess.proofs.AssembleLaws.{call_left}
use Rattle.cad_tess.proofs.assembling.cad_assemble.Goals as goal

pub returns : goal.returns
returns c = call_left _ _ _ _ _ _ _ _ c.box_of-reference.ensures c.assemble.ensures c.into.ensures
