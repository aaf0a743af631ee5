-- A squared distance beyond which a distance is above the sag, and what it rules out. Assumes nothing.
use Rattle.std.specs.Prelude.{◌≡◌, Bool, true, false, T, Float}
use Rattle.std.specs.Float.{binary64}
use Rattle.std.specs.Float.Ieee.{fits, lt}
use Rattle.float_sqrt.specs.Roots.{sqrt}
use Rattle.patch_geometry.specs.declared.Vec3.{Vec3}
use Rattle.stitch_projection.specs.declared.Edge.{Edge}
use Rattle.stitch_projection.specs.Projection.{within_sag}

-- the root of each f64 above b is above the sag
pub record Beyond (sag b : Float) : Type 0 where
  pub far : (x : Float) → T (fits binary64 x) → lt b x ≡ true → lt sag (sqrt x) ≡ true

-- an answer of false means that r is not within a sag that b is beyond
pub record Ruled (b : Float) (s : Edge) (r : Vec3) (o : Bool) : Type 0 where
  pub out : (sag : Float) → Beyond sag b → o ≡ false → within_sag sag s r ≡ false
