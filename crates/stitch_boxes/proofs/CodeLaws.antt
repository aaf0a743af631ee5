-- Boxes and the rule as the code makes them. Assumes nothing.
use mathlib.Core.Path.{◌≡◌, sym, ap, ◌∙◌}
use mathlib.Core.Bool.{Bool, true, false, ◌||◌}
use lib.Ieee.{Float, binary64, lt}
use Rattle.float_spans.specs.declared.Span.{Span}
use Rattle.float_spans.specs.Spans.{less, plus, minus, times, over, least_square}
use Rattle.patch_geometry.specs.declared.Vec3.{Vec3}
use Rattle.patch_geometry.specs.Geometry.{add}
use Rattle.stitch_projection.specs.declared.Edge.{Edge}
use Rattle.stitch_projection.specs.Projection.{near_end, far_end}
use Rattle.stitch_boxes.specs.declared.Bounds.{Bounds}
use Rattle.float_spans.specs.Hulls.{empty, one, hull}
use Rattle.stitch_boxes.specs.Boxes.{empty_box, point_box, hull_v, less_v, dot_v, counting, start_of, end_of, inside, span_of, least_off, far}

-- a low end above 1e-6 stands
pub start_yes : (l : Float) → lt near_end l ≡ true → l ≡ start_of l
start_yes l h = rw h

-- any other, a NaN included, is 1e-6
pub start_no : (l : Float) → lt near_end l ≡ false → near_end ≡ start_of l
start_no l h = rw h

-- a high end below 1 − 1e-6 stands
pub end_yes : (h : Float) → lt h far_end ≡ true → h ≡ end_of h
end_yes h k = rw k

-- any other, a NaN included, is 1 − 1e-6
pub end_no : (h : Float) → lt h far_end ≡ false → far_end ≡ end_of h
end_no h k = rw k

abbrev made : Float → Float → Span
made a b = record { low = a; high = b }

abbrev box : Span → Span → Span → Bounds
box a b c = record { x = a; y = b; z = c }

-- on one axis
abbrev way : Span → Span → Float → Float
way w u c = least_square binary64 (minus binary64 w (times binary64 u c))

-- the least square of the distance, by its axes
pub off_is : (w : Bounds) (d : Vec3) (u : Span) {a b c : Float} → a ≡ way w.x u d.x → b ≡ way w.y u d.y → c ≡ way w.z u d.z → add (add a b) c ≡ least_off w d u
unfolding least_off
off_is w d u {a} {b} {c} h k l = ap (λ (z : Float). add (add z b) c) h ∙ ap (λ (z : Float). add (add (way w.x u d.x) z) c) k ∙ ap (add (add (way w.x u d.x) (way w.y u d.y))) l

module _ (B : Bounds) (s : Edge) (b : Float) {w : Bounds} (e : w ≡ less_v B s.start) where
  -- the rule by the ways
  abbrev by : Bounds → Span → Bool
  by w u = lt b (least_off w s.along counting) || lt u.high u.low || lt b (least_off w s.along u)

  by_is : by w (span_of w s) ≡ far B s b
  unfolding far
  by_is = ap (λ (w : Bounds). by w (span_of w s)) e

  module _ {x : Float} (f : x ≡ least_off w s.along counting) where
    -- passed over by its extent
    pub far_beside : lt b x ≡ true → true ≡ far B s b
    far_beside h = let k : lt b (least_off w s.along counting) ≡ true = ap (lt b) (sym f) ∙ h in (rw k) ∙ by_is

    module _ (h : lt b x ≡ false) {k t u : Span} (m : k ≡ dot_v w s.along) (n : t ≡ over binary64 k s.squared) (o : u ≡ inside t) where
      u_is : u ≡ span_of w s
      u_is = o ∙ ap inside (n ∙ ap (λ (z : Span). over binary64 z s.squared) m)

      at_u : by w u ≡ far B s b
      at_u = ap (by w) u_is ∙ by_is

      none : lt b (least_off w s.along counting) ≡ false
      none = ap (lt b) (sym f) ∙ h

      -- passed over since nothing projects inside, or by the distance
      pub far_last : {y : Float} → y ≡ least_off w s.along u → (lt u.high u.low || lt b y) ≡ far B s b
      far_last q = ap (λ (z : Float). lt u.high u.low || lt b z) q ∙ (rw none) ∙ at_u
