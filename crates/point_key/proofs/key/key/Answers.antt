-- `key` meets its contract. Assumes nothing.
use Rattle.point_key.proofs.Steps.{key_told_lem}
use Rattle.point_key.proofs.key.key.Goals as goal

pub returns : goal.returns
returns c = search key_told_lem
