-- `point_key::key::key_step` meets its contract. Assumes nothing.
use Rattle.point_key.proofs.Steps.{step_is}
use Rattle.point_key.proofs.key.key_step.Goals as goal

pub returns : goal.returns
returns c = step_is c.args.h c.args.b c.requires c.wrapping_mul.ensures
