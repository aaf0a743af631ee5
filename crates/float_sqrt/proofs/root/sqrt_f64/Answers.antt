-- `float_sqrt::root::sqrt_f64` meets its contract. Assumes nothing.
use mathlib.Core.Path.{ap, ◌∙◌}
use lib.Ieee.{binary64}
use Rattle.float_steps.specs.Floats.{f64}
use Rattle.float_sqrt.specs.Roots.{sqrt, sqrt_bits}
use Rattle.float_steps.specs.Patterns.{through}
use Rattle.float_sqrt.proofs.SqrtBits.{sqrt_fits}
use Rattle.float_sqrt.proofs.root.sqrt_f64.Goals as goal

pub returns : goal.returns
returns c = let x = c.args.x in
    c.f64_of_bits.ensures ∙ ap f64 (c.sqrt.ensures ∙ ap sqrt_bits c.bits_of_f64.ensures)
    ∙ through binary64 binary64 sqrt x c.well_formed.0.1 sqrt_fits
