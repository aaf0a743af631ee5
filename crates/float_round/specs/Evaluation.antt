-- A claim that says `unfolding evaluation` has every definition of this crate and of those below it computed. Assumes nothing.
use Rattle.std.specs.Prelude.{ℕ}
use Rattle.float_steps.specs.Evaluation as Floats
use Rattle.float_round.specs.Integral.{round_away}

-- every definition that computes
unfoldable pub evaluation : ℕ
unfolding Floats.evaluation round_away
evaluation = 0
