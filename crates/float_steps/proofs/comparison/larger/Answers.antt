-- `float_steps::larger` meets its contract. Assumes nothing.
use Rattle.float_steps.proofs.comparison.larger.Goals as goal

pub returns : goal.returns
returns c = cc
