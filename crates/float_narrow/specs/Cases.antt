-- Worked examples of narrowing, by computation of its definition. Assumes nothing.
use Rattle.std.specs.Prelude.{◌≡◌, refl}
use Rattle.std.specs.Float.Ieee.{round, size, of_bits, to_bits}
use Rattle.float_narrow.specs.Narrow.{narrow, narrow_bits}

-- a tie goes to the even one: 1 + 2 ^ -24 down, and 1 + 3 * 2 ^ -24 up
tie_down : narrow_bits 0x3FF0000010000000 ≡ 0x3F800000
unfolding round size of_bits to_bits narrow
tie_down = refl

tie_up : narrow_bits 0x3FF0000030000000 ≡ 0x3F800002
unfolding round size of_bits to_bits narrow
tie_up = refl
