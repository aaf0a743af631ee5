-- A claim that says `unfolding evaluation` has every definition of this crate and of those below it computed. Assumes nothing.
use Rattle.std.specs.Prelude.{ℕ}
use Rattle.std.specs.Float.Ieee as Ieee
use Rattle.float_steps.specs.Floats.{negative, larger, absolute, finite}

-- every definition that computes
unfoldable pub evaluation : ℕ
unfolding Ieee.round Ieee.add Ieee.sub Ieee.mul Ieee.div Ieee.neg Ieee.lt Ieee.eq Ieee.is_nan Ieee.of_bits Ieee.to_bits Ieee.of_int Ieee.size negative larger absolute finite
evaluation = 0
