-- `point_key::key::key_low` meets its contract. Assumes nothing.
use Rattle.point_key.proofs.Steps.{low_word}
use Rattle.point_key.proofs.key.key_low.Goals as goal

pub returns : goal.returns
returns c = search low_word
