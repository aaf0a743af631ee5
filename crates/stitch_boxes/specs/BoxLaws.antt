-- What is computed for a point of a box lies in the span that is computed for the box: the parameter, the way from the projection, and the square of the distance. Assumes nothing.
use Rattle.std.proofs.Common.{subst}
use Rattle.std.specs.Prelude.{T, Float}
use Rattle.std.specs.Float.Ieee as Ieee
use Rattle.std.specs.Float.{binary64}
use Rattle.std.specs.Float.Ieee.{lt}
use Rattle.std.specs.Float.Ieee.Positive.{above}
use Rattle.std.specs.Float.Ieee.Scale.{finite}
use Rattle.float_spans.specs.Rounds.{number, upper, number_upper}
use Rattle.float_spans.specs.Monotone.{mul_number}
use Rattle.float_spans.specs.Orders.{NotBelow, above_of_lt}
use Rattle.float_spans.specs.Everywhere.{add_keeps}
use Rattle.float_spans.specs.Squares.{upper_square}
use Rattle.float_spans.specs.declared.Span.{Span}
use Rattle.float_spans.specs.Spans.{Holds, Finite, minus, times, over, less_holds, plus_holds, minus_holds}
use Rattle.float_spans.proofs.Spans.{times_holds, over_holds, square_holds}
use Rattle.float_spans.specs.Clamps.{clamp_holds, clamp_finite, mul_swap, upper_add, sub_any}
use Rattle.patch_geometry.specs.declared.Vec3.{Vec3}
use Rattle.patch_geometry.specs.Geometry.{sub, mul, div, add, sub_v, scale, dot}
use Rattle.stitch_projection.specs.declared.Edge.{Edge}
use Rattle.stitch_projection.specs.Projection.{near_end, far_end}
use Rattle.stitch_boxes.specs.declared.Bounds.{Bounds}
use Rattle.stitch_boxes.specs.Boxes.{Within, FiniteBox, FiniteVec, less_v, dot_v, counting, span_of, offs, least_sum, least_off}

-- the ends of the parameters that count are finite
pub near_finite : T (finite near_end)
unfolding near_end Ieee.of_bits
near_finite = tt

-- 1 − 1e-6 is finite
pub far_finite : T (finite far_end)
unfolding far_end Ieee.of_bits
far_finite = tt

-- so is the span of what counts
pub counting_finite : Finite counting
counting_finite = record { low = near_finite; high = far_finite }

-- the way to a point of the box lies in the box of the ways
pub way_within : {B : Bounds} {r : Vec3} (p : Vec3) → Within B r → Within (less_v B p) (sub_v r p)
way_within p h = record { x = less_holds binary64 p.x h.x; y = less_holds binary64 p.y h.y; z = less_holds binary64 p.z h.z }

-- its product with d
pub dot_within : {W : Bounds} {w : Vec3} (d : Vec3) → FiniteBox W → FiniteVec d → Within W w → Holds (dot_v W d) (dot w d)
dot_within d g k h =
    plus_holds binary64 (plus_holds binary64 (times_holds binary64 d.x g.x k.x h.x) (times_holds binary64 d.y g.y k.y h.y)) (times_holds binary64 d.z g.z k.z h.z)

-- ---- the parameter t, where it counts: it lies in the span of the box, cut to what counts
module _ (s : Edge) {W : Bounds} {w : Vec3} (g : FiniteBox W) (k : FiniteVec s.along) (a : T (above s.squared)) (h : Within W w) where
  -- the parameter
  abbrev pub parameter : Float
  parameter = div (dot w s.along) s.squared

  -- the parameter lies in the span of the box
  pub parameter_holds : Holds (over binary64 (dot_v W s.along) s.squared) parameter
  parameter_holds = over_holds binary64 s.squared a (dot_within s.along g k h)

  -- and, where it counts, in that span cut to what counts
  pub parameter_inside : T (lt near_end parameter) → T (lt parameter far_end) → Holds (span_of W s) parameter
  parameter_inside p q = clamp_holds near_end far_end p q parameter_holds

  -- whose ends are then finite
  pub parameter_finite : T (lt near_end parameter) → T (lt parameter far_end) → Finite (span_of W s)
  parameter_finite p q = clamp_finite near_end far_end near_finite far_finite p q parameter_holds

-- t that counts lies among what counts
pub counting_holds : {t : Float} → T (lt near_end t) → T (lt t far_end) → Holds counting t
counting_holds {t} p q = record { least = above_of_lt near_end t p; most = above_of_lt t far_end q }

-- ---- the way from the projection, for a t in u
off_at : {X u : Span} {x t : Float} (c : Float) → Finite u → T (finite c) → Holds X x → Holds u t → Holds (minus binary64 X (times binary64 u c)) (sub x (mul c t))
off_at {X} {u} {x} {t} c g k h l = subst (λ (z : Float). Holds (minus binary64 X (times binary64 u c)) (sub x z)) (mul_swap binary64 t c) (minus_holds binary64 h (times_holds binary64 c g k l))

-- on each axis
pub off_within : {W : Bounds} {w : Vec3} {u : Span} {t : Float} (d : Vec3) → Finite u → FiniteVec d → Within W w → Holds u t → Within (offs W d u) (sub_v w (scale d t))
off_within d g k h l = record { x = off_at d.x g k.x h.x l; y = off_at d.y g k.y h.y l; z = off_at d.z g k.z h.z l }

-- ---- the square of the distance is not below the least one
pub square_within : {O : Bounds} {o : Vec3} → Within O o → NotBelow (dot o o) (least_sum O)
square_within {O} {o} h =
    add_keeps binary64 (add_keeps binary64 (square_holds binary64 O.x o.x h.x) (square_holds binary64 O.y o.y h.y)) (square_holds binary64 O.z o.z h.z)

-- for ways in W and a t in u
pub least_off_lem : {W : Bounds} {w : Vec3} {u : Span} {t : Float} (d : Vec3) → Finite u → FiniteVec d → Within W w → Holds u t → NotBelow (dot (sub_v w (scale d t)) (sub_v w (scale d t))) (least_off W d u)
unfolding least_off
least_off_lem d g k h l = square_within (off_within d g k h l)

-- ---- the square of the distance is a number, for finite ways and a finite t
pub dot_upper : (o : Vec3) → T (number o.x) → T (number o.y) → T (number o.z) → T (upper (dot o o))
dot_upper o p q r =
    upper_add binary64 (add (mul o.x o.x) (mul o.y o.y)) (mul o.z o.z)
    (upper_add binary64 (mul o.x o.x) (mul o.y o.y) (upper_square binary64 o.x p) (upper_square binary64 o.y q))
    (upper_square binary64 o.z r)

-- so the square of the distance is no NaN
pub off_number : (w d : Vec3) (t : Float) → FiniteVec w → FiniteVec d → T (finite t) → T (number (dot (sub_v w (scale d t)) (sub_v w (scale d t))))
off_number w d t p q r =
    number_upper (dot (sub_v w (scale d t)) (sub_v w (scale d t)))
    (dot_upper (sub_v w (scale d t)) (at w.x d.x p.x q.x) (at w.y d.y p.y q.y) (at w.z d.z p.z q.z))
  where
    at : (x c : Float) → T (finite x) → T (finite c) → T (number (sub x (mul c t)))
    at x c p q = sub_any binary64 x (mul c t) p (mul_number binary64 c t q r)
