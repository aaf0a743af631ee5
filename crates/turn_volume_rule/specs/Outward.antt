-- The definitions that the theorems of this name in proofs/ speak of. Assumes nothing.
use Rattle.std.specs.Prelude.{◌≡◌, true, false, Float}
use Rattle.std.specs.Float.Ieee.{lt}
use Rattle.patch_geometry.specs.Geometry.{zero64}

pub record Positive (x : Float) : Type 0 where
  pub no : lt x zero64 ≡ false
  pub yes : lt zero64 x ≡ true
