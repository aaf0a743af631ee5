-- `point_key::key::key_of` meets its contract. Assumes nothing.
use Rattle.point_key.proofs.Steps.{key_is}
use Rattle.point_key.proofs.key.key_of.Goals as goal

pub returns-then-cx-cy-eq0 : goal.returns-then-cx-cy-eq0
returns-then-cx-cy-eq0 c = search key_is

pub returns : goal.returns
returns c = search key_is
