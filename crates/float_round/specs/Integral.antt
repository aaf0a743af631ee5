-- Rounding to a whole number (IEEE 754-2019). Assumes nothing.
use Rattle.std.specs.Prelude.{ℕ, ◌+◌, ◌*◌, ◌/◌, Float}
use Rattle.std.specs.Float.{nan, inf, fin, binary64}
use Rattle.std.specs.Float.Ieee.{up, down, round}
use Rattle.float_steps.specs.Floats.{f64, bits64}

-- a / c to the nearest whole number, halves up
abbrev pub half_up : ℕ → ℕ → ℕ
half_up a c = (a * 2 + c) / (c * 2)

-- Rounding is to the nearest whole number, halves away from zero, with the sign kept (5.9, roundToIntegralTiesToAway).
unfoldable pub round_away : Float → Float
round_away nan = nan
round_away (inf s) = inf s
round_away (fin s m e) = round binary64 s (half_up (m * up e) (down e)) 1

abbrev pub round_bits : ℕ → ℕ
round_bits b = bits64 (round_away (f64 b))
