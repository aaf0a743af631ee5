-- Worked examples of the square root, by computation of its definition. Assumes nothing.
use Rattle.std.specs.Prelude.{◌≡◌, refl}
use Rattle.std.specs.Float.Ieee.{round, size, of_bits, to_bits}
use Rattle.float_sqrt.specs.Roots.{isqrt, root_of, sqrt, sqrt_bits}

-- the root of 2
root_of_two : sqrt_bits 0x4000000000000000 ≡ 0x3FF6A09E667F3BCD
unfolding round size of_bits to_bits isqrt root_of sqrt
root_of_two = refl

-- the root of the smallest value, 2 ^ -1074, is 2 ^ -537
root_of_least : sqrt_bits 1 ≡ 0x1E60000000000000
unfolding round size of_bits to_bits isqrt root_of sqrt
root_of_least = refl
