-- `float_steps::absolute_f64` meets its contract. Assumes nothing.
use Rattle.std.proofs.Common.{◌∙◌}
use Rattle.float_steps.proofs.Signs.{absolute_is}
use Rattle.float_steps.proofs.comparison.absolute_f64.Goals as goal

pub returns : goal.returns
returns c = c.abs.ensures.value ∙ absolute_is c.args.x
