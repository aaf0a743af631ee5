-- Narrowing an f64 to an f32 (IEEE 754-2019). Assumes nothing.
use Rattle.std.specs.Prelude.{ℕ, ◌*◌, Float}
use Rattle.std.specs.Float.{nan, inf, fin, binary32}
use Rattle.std.specs.Float.Ieee.{up, down, round}
use Rattle.float_steps.specs.Floats.{f64, bits32}

-- Narrowing is to nearest, ties to even (5.4.2). The value m * 2 ^ e is the fraction m * up e / down e.
unfoldable pub narrow : Float → Float
narrow nan = nan
narrow (inf s) = inf s
narrow (fin s m e) = round binary32 s (m * up e) (down e)

abbrev pub narrow_bits : ℕ → ℕ
narrow_bits b = bits32 (narrow (f64 b))
