-- Where a point is placed, the edge is one of three and the parameter is between 1e-6 and 1 − 1e-6, so that both fit one word. Assumes nothing.
use Rattle.std.specs.Prelude.{◌≡◌, Bool, true, false, not, ◌&&◌, cond, ℕ, ◌≤◌, ◌<◌, T, Float}
use Rattle.std.proofs.Common.{subst, arith}
use Rattle.std.proofs.Math.Option.{Option, none, some}
use Rattle.std.specs.Float.{binary64}
use Rattle.std.specs.Float.Ieee.{lt, eq}
use Rattle.std.specs.Float.Ieee.Fits.{and_l, and_r, div-fits}
use Rattle.float_steps.specs.Floats.{bits64}
use Rattle.patch_geometry.specs.declared.Vec3.{Vec3}
use Rattle.patch_geometry.specs.Geometry.{div, dot, sub_v, scale, length_v, zero64}
use Rattle.stitch_projection.specs.declared.Edge.{Edge}
use Rattle.stitch_projection.specs.declared.Hit.{Hit}
use Rattle.stitch_projection.specs.Projection.{project, near_end, far_end}
use Rattle.stitch_splits.specs.declared.sides.Sides.{Sides}
use Rattle.stitch_splits.specs.declared.sides.Spot.{Spot}
use Rattle.stitch_splits.specs.Found.{nearer_spot, spot_of}
use Rattle.stitch_pairs.specs.BitOrder.{Inside, inside_bits}

-- a hit has such a parameter
abbrev HitInside : Option Hit → Type 0
HitInside none = Unit {0}
HitInside (some h) = Inside h.t

hit_inside : (s : Edge) (r : Vec3) → HitInside (project s r)
unfolding project
hit_inside s r = go (not (eq s.squared zero64) && lt near_end t && lt t far_end) (length_v (sub_v (sub_v r s.start) (scale s.along t))) inside
  where
    t : Float
    t = div (dot (sub_v r s.start) s.along) s.squared

    inside : T (not (eq s.squared zero64) && lt near_end t && lt t far_end) → Inside t
    inside h =
        let both = and_l (not (eq s.squared zero64) && lt near_end t) (lt t far_end) h in
        record {
          fit = div-fits binary64 (dot (sub_v r s.start) s.along) s.squared;
          low = and_r (not (eq s.squared zero64)) (lt near_end t) both;
          high = and_r (not (eq s.squared zero64) && lt near_end t) (lt t far_end) h;
        }

    go : (b : Bool) (d : Float) → (T b → Inside t) → HitInside (cond b (some (record { t = t; distance = d })) none)
    go true d f = f tt
    go false d f = tt

-- a place on one of three edges at such a parameter
pub record SpotInside (q : Spot) : Type 0 where
  pub edge : q.e ≤ 2
  pub inside : Inside q.t

-- each place is such
abbrev pub SpotsInside : Option Spot → Type 0
SpotsInside none = Unit {0}
SpotsInside (some q) = SpotInside q

-- and so is the nearer one
nearer_inside : (best : Option Spot) (e : ℕ) → e ≤ 2 → SpotsInside best → (h : Option Hit) → HitInside h → SpotsInside (nearer_spot best e h)
nearer_inside best e l a none i = a
nearer_inside none e l a (some h) i = record { edge = l; inside = i }
nearer_inside (some b) e l a (some h) i = go (lt h.distance b.distance)
  where
    go : (c : Bool) → SpotsInside (cond c (some (record { e = e; t = h.t; distance = h.distance })) (some b))
    go true = record { edge = l; inside = i }
    go false = a

-- A point is placed inside an edge.
pub spot_inside : (s : Sides) (r : Vec3) → SpotsInside (spot_of s r)
unfolding spot_of
spot_inside s r =
    let h₀ = project s.first.edge r in
    let h₁ = project s.second.edge r in
    let h₂ = project s.third.edge r in
    let b₀ = nearer_spot none 0 h₀ in
    let b₁ = nearer_spot b₀ 1 h₁ in
    nearer_inside b₁ 2 (omega arith)
    (nearer_inside b₀ 1 (omega arith) (nearer_inside none 0 (omega arith) tt h₀ (hit_inside s.first.edge r)) h₁ (hit_inside s.second.edge r))
    h₂
    (hit_inside s.third.edge r)

-- edge and parameter fit one word
pub record SpotKey (q : Spot) : Type 0 where
  pub edge : q.e ≤ 2
  pub bits : bits64 q.t < 4611686018427387904

-- Where a point is placed, edge and parameter fit one word.
pub spot_key : (s : Sides) (r : Vec3) (q : Spot) → spot_of s r ≡ some q → SpotKey q
spot_key s r q e =
    let i : SpotInside q = subst SpotsInside e (spot_inside s r) in
    record { edge = i.edge; bits = inside_bits q.t i.inside }
