-- `cad_patch_volume` meets its contract. Assumes nothing.
use Rattle.cad_tess.proofs.Laws.{volume_struct}
use Rattle.cad_tess.proofs.patch.cad_patch_volume.Goals as goal

pub returns : goal.returns
returns c = search volume_struct
