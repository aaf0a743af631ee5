-- Boxes of points, and the formula of the distance from an edge evaluated on them. Assumes nothing.
use Rattle.std.specs.Prelude.{Bool, ◌||◌, cond, T, Float}
use Rattle.std.specs.Float.{binary64}
use Rattle.std.specs.Float.Ieee.{lt}
use Rattle.std.specs.Float.Ieee.Scale.{finite}
use Rattle.float_spans.specs.declared.Span.{Span}
use Rattle.float_spans.specs.Spans.{Holds, Finite, less, plus, minus, times, over, least_square}
use Rattle.float_spans.specs.Clamps.{clamp}
use Rattle.float_spans.specs.Hulls.{empty, one, hull}
use Rattle.patch_geometry.specs.declared.Vec3.{Vec3}
use Rattle.patch_geometry.specs.Geometry.{add}
use Rattle.stitch_boxes.specs.declared.Bounds.{Bounds}
use Rattle.stitch_projection.specs.declared.Edge.{Edge}
use Rattle.stitch_projection.specs.Projection.{near_end, far_end}

-- r lies in B, on each axis
pub record Within (B : Bounds) (r : Vec3) : Type 0 where
  pub x : Holds B.x r.x
  pub y : Holds B.y r.y
  pub z : Holds B.z r.z

-- all ends are finite
pub record FiniteBox (B : Bounds) : Type 0 where
  pub x : Finite B.x
  pub y : Finite B.y
  pub z : Finite B.z

-- all coordinates are finite
pub record FiniteVec (p : Vec3) : Type 0 where
  pub x : T (finite p.x)
  pub y : T (finite p.y)
  pub z : T (finite p.z)

-- the box of nothing
abbrev pub empty_box : Bounds
empty_box = record { x = empty; y = empty; z = empty }

-- the box of one point
abbrev pub point_box : Vec3 → Bounds
point_box p = record { x = one p.x; y = one p.y; z = one p.z }

-- the least box that holds two boxes
abbrev pub hull_v : Bounds → Bounds → Bounds
hull_v A B = record { x = hull A.x B.x; y = hull A.y B.y; z = hull A.z B.z }

-- the ways from p to the points of B
abbrev pub less_v : Bounds → Vec3 → Bounds
less_v B p = record { x = less binary64 B.x p.x; y = less binary64 B.y p.y; z = less binary64 B.z p.z }

-- the products with d
abbrev pub dot_v : Bounds → Vec3 → Span
dot_v W d = plus binary64 (plus binary64 (times binary64 W.x d.x) (times binary64 W.y d.y)) (times binary64 W.z d.z)

-- the parameters that count
abbrev pub counting : Span
counting = record { low = near_end; high = far_end }

-- the low end of a span cut to what counts
abbrev pub start_of : Float → Float
start_of l = cond (lt near_end l) l near_end

-- the high end of a span cut to what counts
abbrev pub end_of : Float → Float
end_of h = cond (lt h far_end) h far_end

-- what a span has of the parameters that count
abbrev pub inside : Span → Span
inside u = clamp near_end far_end u

-- the parameters of the points whose ways are in W
abbrev pub span_of : Bounds → Edge → Span
span_of W s = inside (over binary64 (dot_v W s.along) s.squared)

-- the ways from the projections
abbrev pub offs : Bounds → Vec3 → Span → Bounds
offs W d u = record { x = minus binary64 W.x (times binary64 u d.x); y = minus binary64 W.y (times binary64 u d.y); z = minus binary64 W.z (times binary64 u d.z) }

-- the least square of the distance
abbrev pub least_sum : Bounds → Float
least_sum O = add (add (least_square binary64 O.x) (least_square binary64 O.y)) (least_square binary64 O.z)

-- the least square of the distance for ways in W and parameters in u
unfoldable pub least_off : Bounds → Vec3 → Span → Float
least_off W d u = least_sum (offs W d u)

-- whether no point of the box is within a distance of the edge whose square is b
unfoldable pub far : Bounds → Edge → Float → Bool
far B s b =
    let W = less_v B s.start in
    let u = span_of W s in
    lt b (least_off W s.along counting) || lt u.high u.low || lt b (least_off W s.along u)
