-- `narrowing::narrowing::narrow_f64` meets its contract. Assumes nothing.
use mathlib.Core.Path.{ap, ◌∙◌}
use lib.Ieee.{binary32, binary64}
use Rattle.float_steps.specs.Floats.{f32}
use Rattle.float_narrow.specs.Narrow.{narrow, narrow_bits}
use Rattle.float_steps.specs.Patterns.{through}
use Rattle.float_narrow.proofs.NarrowBits.{narrow_fits}
use Rattle.float_narrow.proofs.narrowing.narrow_f64.Goals as goal

pub returns : goal.returns
returns c = let x = c.args.x in
    c.f32_of_bits.ensures ∙ ap f32 (c.narrow.ensures ∙ ap narrow_bits c.bits_of_f64.ensures)
    ∙ through binary64 binary32 narrow x c.well_formed.0.1 (λ y f. narrow_fits y)
