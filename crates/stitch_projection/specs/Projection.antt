-- Where a point projects on an edge, and the normal mixed there. Each operation on f64 rounds once. Assumes nothing.
use Rattle.std.specs.Prelude.{Bool, false, not, ◌&&◌, cond, List, [], ◌∷◌, Float}
use Rattle.std.proofs.Math.Option.{Option, none, some}
use Rattle.std.specs.Float.Ieee.{lt, eq}
use Rattle.float_steps.specs.Floats.{f64, larger}
use Rattle.float_narrow.specs.Narrow.{narrow}
use Rattle.patch_geometry.specs.declared.Vec3.{Vec3}
use Rattle.stitch_projection.specs.declared.Edge.{Edge}
use Rattle.stitch_projection.specs.declared.Hit.{Hit}
use Rattle.patch_geometry.specs.Geometry.{sub, div, add_v, sub_v, scale, dot, length_v, zero64, one64}

-- 1e-6, which t is above
unfoldable pub near_end : Float
near_end = f64 0x3EB0C6F7A0B5ED8D

-- 1 − 1e-6, the f64 difference, which t is below
unfoldable pub far_end : Float
far_end = f64 0x3FEFFFFDE7210BE9

-- the edge p to q
unfoldable pub edge_of : Vec3 → Vec3 → Edge
edge_of p q = let d = sub_v q p in record { start = p; along = d; squared = dot d d }

-- The hit of r on an edge, if 1e-6 < t < 1 − 1e-6 for the projection parameter t; edges of squared length 0 are skipped.
unfoldable pub project : Edge → Vec3 → Option Hit
project s r =
    let w = sub_v r s.start in
    let t = div (dot w s.along) s.squared in
    let hit : Option Hit = some (record { t = t; distance = length_v (sub_v w (scale s.along t)) }) in
    cond (not (eq s.squared zero64) && lt near_end t && lt t far_end) hit none

-- whether r projects into an edge at a distance that isn't above the sag
unfoldable pub within_sag : Float → Edge → Vec3 → Bool
within_sag sag s r = elim (project s r) [ none ↦ false | some h ↦ not (lt sag h.distance) ]

-- ---- normals

-- 1e-30, the least divisor of a normal
unfoldable pub least_length : Float
least_length = f64 0x39B4484BFEEBC2A0

-- The normal is mixed, divided by the larger of its length and 1e-30, and narrowed.
unfoldable pub mixed : Vec3 → Vec3 → Float → List Float
mixed na nb t =
    let m = add_v (scale na (sub one64 t)) (scale nb t) in
    let l = larger (length_v m) least_length in
    narrow (div m.x l) ∷ narrow (div m.y l) ∷ narrow (div m.z l) ∷ []
