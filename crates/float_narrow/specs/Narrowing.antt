-- The definitions that the theorems of this name in proofs/ speak of. Assumes nothing.
use Rattle.std.specs.Prelude.{◌⊎◌, Bool, ℕ, ◌*◌, ◌^◌, Float}
use Rattle.std.specs.Float.{binary32}
use Rattle.std.specs.Float.Ieee.Exact.{HasValue}
use Rattle.std.specs.Float.Ieee.Scale.{grid}
use Rattle.float_rounding.specs.Near.{Within}
use Rattle.float_narrow.specs.Narrow.{narrow}

-- The narrowed value of a / c is `grid` of the smallest f32 values. It is off by a part in 2 ^ 24 of a / c at most, or by half of the smallest value.
pub record Narrowed (x : Float) (s : Bool) (a c : ℕ) : Type 0 where
  pub is : HasValue (narrow x) s (grid binary32 a c) (2 ^ 149)
  pub near : Within (grid binary32 a c * c * 2 ^ 24) (a * 2 ^ 149 * 2 ^ 24) (a * 2 ^ 149) ⊎ Within (grid binary32 a c * c * 2) (a * 2 ^ 149 * 2) c
