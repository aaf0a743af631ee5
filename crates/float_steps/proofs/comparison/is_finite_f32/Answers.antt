-- `float_steps::is_finite_f32` meets its contract. Assumes nothing.
use Rattle.std.proofs.Common.{◌∙◌}
use Rattle.float_steps.proofs.Signs.{finite_is}
use Rattle.float_steps.proofs.comparison.is_finite_f32.Goals as goal

pub returns : goal.returns
returns c = c.is_finite.ensures.value ∙ finite_is c.args.x
