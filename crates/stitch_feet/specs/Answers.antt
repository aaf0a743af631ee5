-- The definition's answers as the values that the code makes. Assumes nothing.
use Rattle.std.specs.Prelude.{not, ◌&&◌, cond, Option, Some, None}
use Rattle.std.proofs.Math.Option as Math
use Rattle.std.specs.Float.Ieee.{lt, eq}
use Rattle.patch_geometry.specs.declared.Vec3.{Vec3}
use Rattle.patch_geometry.specs.Geometry.{div, sub_v, scale, dot, zero64}
use Rattle.stitch_projection.specs.declared.Edge.{Edge}
use Rattle.stitch_feet.specs.declared.Foot.{Foot}
use Rattle.stitch_projection.specs.Projection.{near_end, far_end}

-- the definition's option as the code's
abbrev pub as_option : {A : Type 0} → Math.Option A → Option A
as_option Math.none = None
as_option (Math.some x) = Some x

-- the code's as the definition's
abbrev pub of_option : {A : Type 0} → Option A → Math.Option A
of_option None = Math.none
of_option (Some x) = Math.some x

-- Where r projects into an edge: the parameter t, and the way from the projection to r.
unfoldable pub footing : Edge → Vec3 → Option Foot
footing s r =
    let w = sub_v r s.start in
    let t = div (dot w s.along) s.squared in
    cond (not (eq s.squared zero64) && lt near_end t && lt t far_end) (Some (record { t = t; off = sub_v w (scale s.along t) })) None
