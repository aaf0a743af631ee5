-- The float steps that the language lacks: widening, the larger of two and the absolute value; narrowing, square root and rounding to a whole number stand in crates of their own (IEEE 754-2019).
-- A value is `lib.Ieee`'s Float, which has one NaN; as a bit pattern that NaN is 7FF8000000000000 or, narrowed, 7FC00000. Assumes nothing.
use Rattle.std.specs.Prelude.{ℕ, Bool, true, false, cond, from_bits, is_nan, to_bits, Float}
use Rattle.std.specs.Float.{nan, inf, fin, binary32, binary64}
use Rattle.std.specs.Float.Ieee.{lt}

-- the f32 and the f64 with given bits, and the bits of each
abbrev pub f32 : ℕ → Float
f32 b = from_bits binary32 b

abbrev pub f64 : ℕ → Float
f64 b = from_bits binary64 b

abbrev pub bits32 : Float → ℕ
bits32 x = to_bits binary32 x

abbrev pub bits64 : Float → ℕ
bits64 x = to_bits binary64 x

-- Widening is exact: an f32 is the same value as an f64 (5.4.2).
abbrev pub widen : Float → Float
widen x = x

-- whether the sign is minus
unfoldable pub negative : Float → Bool
negative nan = false
negative (inf s) = s
negative (fin s m e) = s

-- The larger of two ignores a NaN and puts +0 above -0 (9.6, maximumNumber).
unfoldable pub larger : Float → Float → Float
larger x y = cond (is_nan x) y (cond (is_nan y) x (cond (lt x y) y (cond (lt y x) x (cond (negative x) y x))))

-- the sign dropped (5.5.1, abs)
unfoldable pub absolute : Float → Float
absolute nan = nan
absolute (inf s) = inf false
absolute (fin s m e) = fin false m e

-- whether it is a number, and no infinity (5.7.2, isFinite)
unfoldable pub finite : Float → Bool
finite nan = false
finite (inf s) = false
finite (fin s m e) = true

-- ---- the steps on bit patterns

abbrev pub widen_bits : ℕ → ℕ
widen_bits b = bits64 (widen (f32 b))

abbrev pub larger_bits : ℕ → ℕ → ℕ
larger_bits a b = bits64 (larger (f64 a) (f64 b))
