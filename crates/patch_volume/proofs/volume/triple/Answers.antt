-- `patch_volume::volume::triple` meets its contract: the code has the definition's operations in the definition's order. Assumes nothing.
use mathlib.Core.Path.{refl}
use Rattle.patch_volume.proofs.volume.triple.Goals as goal

pub returns : goal.returns
returns c = refl
