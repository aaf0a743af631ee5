-- `integral::integral::round_f64` meets its contract. Assumes nothing.
use mathlib.Core.Path.{ap, ◌∙◌}
use lib.Ieee.{binary64}
use Rattle.float_steps.specs.Floats.{f64}
use Rattle.float_round.specs.Integral.{round_away, round_bits}
use Rattle.float_steps.specs.Patterns.{through}
use Rattle.float_round.proofs.RoundBits.{round_away_fits}
use Rattle.float_round.proofs.integral.round_f64.Goals as goal

pub returns : goal.returns
returns c = let x = c.args.x in
    c.f64_of_bits.ensures ∙ ap f64 (c.round.ensures ∙ ap round_bits c.bits_of_f64.ensures)
    ∙ through binary64 binary64 round_away x c.well_formed.0.1 (λ y f. round_away_fits y)
