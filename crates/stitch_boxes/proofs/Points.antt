-- The rule for points that are f32 values widened, and boxes that are hulls of such points: no premise on f64 results is left. Assumes nothing.
use Rattle.stitch_boxes.specs.Points.{Point, BoxEnds, Passed}
use Rattle.std.specs.Prelude.{◌≡◌, refl, true, false, Float}
use Rattle.std.specs.Float.{binary64}
use Rattle.float_spans.specs.declared.Span.{Span}
use Rattle.float_spans.specs.Spans.{Holds, Finite, less}
use Rattle.float_spans.specs.Small.{Single, single_sub}
use Rattle.float_spans.specs.Everywhere.{finite_number}
use Rattle.float_spans.specs.Hulls.{Ends, singles, empty_ends, one_ends, hull_ends, one_holds}
use Rattle.float_spans.proofs.Hulls.{hull_left, hull_right}
use Rattle.patch_geometry.specs.declared.Vec3.{Vec3}
use Rattle.patch_geometry.specs.Geometry.{sub_v}
use Rattle.stitch_projection.specs.Projection.{edge_of, within_sag}
use Rattle.stitch_sag.specs.Beyond.{Beyond}
use Rattle.stitch_boxes.specs.declared.Bounds.{Bounds}
use Rattle.stitch_boxes.specs.Boxes.{Within, FiniteBox, FiniteVec, less_v, empty_box, point_box, hull_v, far}
use Rattle.stitch_boxes.proofs.Rule.{far_rule}

-- the way from one such point to another is finite
pub way_finite : {p q : Vec3} → Point p → Point q → FiniteVec (sub_v q p)
way_finite {p} {q} h k = record {
  x = single_sub q.x p.x k.x h.x;
  y = single_sub q.y p.y k.y h.y;
  z = single_sub q.z p.z k.z h.z;
}

-- so are the ends of the ways to a box that holds one
less_finite : {X : Span} {c x : Float} → Single c → Single x → Ends X → Holds X x → Finite (less binary64 X c)
less_finite {X} {c} {x} p q e h =
    let k = singles x e q.real h in
    record { low = single_sub X.low c k.low p; high = single_sub X.high c k.high p }

-- the ways to a box that holds a point have finite ends
pub ways_finite : {B : Bounds} {p r : Vec3} → Point p → Point r → BoxEnds B → Within B r → FiniteBox (less_v B p)
ways_finite p r e h = record { x = less_finite p.x r.x e.x h.x; y = less_finite p.y r.y e.y h.y; z = less_finite p.z r.z e.z h.z }

-- no point of a far box is within the sag of the edge
pub passed_over : (sag b : Float) (p q r : Vec3) (B : Bounds) → Point p → Point q → Point r → BoxEnds B → Within B r → Beyond sag b → far B (edge_of p q) b ≡ true → within_sag sag (edge_of p q) r ≡ false
unfolding edge_of
passed_over sag b p q r B P Q R e h y f = far_rule (edge_of p q) r B refl (way_finite P Q) (way_finite P R) (ways_finite P R e h) h sag b y f

-- by the test
pub passed : {p q : Vec3} (B : Bounds) (b : Float) → Point p → Point q → BoxEnds B → far B (edge_of p q) b ≡ true → Passed p q B b
passed {p} {q} B b P Q e f = record { out = λ sag r y R h. passed_over sag b p q r B P Q R e h y f }

-- ---- the boxes that are made: of nothing, of a point, and of two boxes
pub empty_box_lem : BoxEnds empty_box
empty_box_lem = record { x = empty_ends; y = empty_ends; z = empty_ends }

-- the box of a point has such ends
pub point_box_lem : {p : Vec3} → Point p → BoxEnds (point_box p)
point_box_lem h = record { x = one_ends h.x; y = one_ends h.y; z = one_ends h.z }

-- a hull has such ends
pub hull_box : {A B : Bounds} → BoxEnds A → BoxEnds B → BoxEnds (hull_v A B)
hull_box h k = record { x = hull_ends h.x k.x; y = hull_ends h.y k.y; z = hull_ends h.z k.z }

-- a point lies in its box
pub point_within : (p : Vec3) → Within (point_box p) p
point_within p = record { x = one_holds p.x; y = one_holds p.y; z = one_holds p.z }

-- and what lies in one of two boxes lies in their hull
pub within_left : {A B : Bounds} {r : Vec3} → Point r → BoxEnds A → BoxEnds B → Within A r → Within (hull_v A B) r
within_left {A} {B} {r} R p q h = record {
  x = hull_left (finite_number r.x R.x.real) p.x q.x h.x;
  y = hull_left (finite_number r.y R.y.real) p.y q.y h.y;
  z = hull_left (finite_number r.z R.z.real) p.z q.z h.z;
}

-- the same of the second box
pub within_right : {A B : Bounds} {r : Vec3} → Point r → BoxEnds A → BoxEnds B → Within B r → Within (hull_v A B) r
within_right {A} {B} {r} R p q h = record {
  x = hull_right (finite_number r.x R.x.real) p.x q.x h.x;
  y = hull_right (finite_number r.y R.y.real) p.y q.y h.y;
  z = hull_right (finite_number r.z R.z.real) p.z q.z h.z;
}
