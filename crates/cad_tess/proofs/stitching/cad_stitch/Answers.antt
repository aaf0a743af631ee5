-- `cad_stitch` meets its contract. Assumes nothing.
use Rattle.cad_tess.proofs.StitchLaws.{call_left}
use Rattle.cad_tess.proofs.stitching.cad_stitch.Goals as goal

pub returns : goal.returns
returns c = search call_left
