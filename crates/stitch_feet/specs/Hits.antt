-- The hit at a footing is the definition's. Assumes nothing.
use Rattle.std.specs.Prelude.{◌≡◌, Bool, not, ◌&&◌, Float, Option, Some, None}
use Rattle.std.proofs.Math.Path.{refl}
use Rattle.std.proofs.Math.Bool.{true, false, cond}
use Rattle.std.proofs.Math.Option as Math
use Rattle.std.specs.Float.Ieee.{lt, eq}
use Rattle.patch_geometry.specs.declared.Vec3.{Vec3}
use Rattle.patch_geometry.specs.Geometry.{div, sub_v, scale, dot, length_v, zero64}
use Rattle.stitch_projection.specs.declared.Edge.{Edge}
use Rattle.stitch_projection.specs.declared.Hit.{Hit}
use Rattle.stitch_feet.specs.declared.Foot.{Foot}
use Rattle.stitch_projection.specs.Projection.{near_end, far_end, project}
use Rattle.stitch_feet.specs.Answers.{footing}

-- the test of a parameter
abbrev pub between : Edge → Float → Bool
between s t = not (eq s.squared zero64) && lt near_end t && lt t far_end

-- the foot for a way w from the start whose product with the edge is d
abbrev pub foot_to : Edge → Vec3 → Float → Foot
foot_to s w d = let t = div d s.squared in record { t = t; off = sub_v w (scale s.along t) }

-- the hit at a footing, if there is one
abbrev pub hit_of : Option Foot → Math.Option Hit
hit_of None = Math.none
hit_of (Some f) = Math.some (record { t = f.t; distance = length_v f.off })

module _ (s : Edge) (r : Vec3) where
  -- the definition's hit is that at the footing
  pub hit_foot : hit_of (footing s r) ≡ project s r
  unfolding footing project
  hit_foot =
      let w = sub_v r s.start in
      let d = dot w s.along in
      go (foot_to s w d) (between s (div d s.squared))
    where
      go : (f : Foot) (b : Bool) → hit_of (cond b (Some f) None) ≡ cond b (Math.some (record { t = f.t; distance = length_v f.off })) Math.none
      go f true = refl
      go f false = refl
