-- Worked examples of rounding to a whole number, by computation of its definition. Assumes nothing.
use Rattle.std.specs.Prelude.{◌≡◌, refl}
use Rattle.std.specs.Float.Ieee.{round, size, of_bits, to_bits}
use Rattle.float_round.specs.Integral.{round_away, round_bits}

-- a half goes away from zero, and what rounds to zero keeps its sign
half_away : round_bits 0xBFE0000000000000 ≡ 0xBFF0000000000000
unfolding round size of_bits to_bits round_away
half_away = refl

zero_kept : round_bits 0xBFDFFFFFFFFFFFFF ≡ 0x8000000000000000
unfolding round size of_bits to_bits round_away
zero_kept = refl
