-- The zero that the arrays lent to the calls are filled with. Assumes nothing.
use Rattle.std.specs.Prelude.{◌≡◌, refl}
use Rattle.std.specs.Float.Ieee.{of_bits}
use Rattle.float_steps.specs.Floats.{f32}
use Rattle.patch_geometry.specs.Geometry.{zero64}

-- 0.0 is the same value in both formats
pub zero_same : f32 0 ≡ zero64
unfolding of_bits
zero_same = refl
