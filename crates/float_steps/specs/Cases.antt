-- Worked examples of the float steps, by computation of their definitions. Assumes nothing.
use Rattle.std.specs.Prelude.{◌≡◌, refl}
use Rattle.std.specs.Float.Ieee.{size, lt, is_nan, of_bits, to_bits}
use Rattle.float_steps.specs.Floats.{negative, larger, larger_bits}

-- +0 above -0, and a NaN ignored
zeros_ordered : larger_bits 0x8000000000000000 0 ≡ 0
unfolding of_bits to_bits size lt is_nan negative larger
zeros_ordered = refl

nan_ignored : larger_bits 0x7FF0000000000001 0xC000000000000000 ≡ 0xC000000000000000
unfolding of_bits to_bits size lt is_nan negative larger
nan_ignored = refl
