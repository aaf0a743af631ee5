-- The box of the points of several words. Assumes nothing.
use mathlib.Core.Path.{◌≡◌, sym, ap, ◌∙◌, subst}
use mathlib.Core.List.{List}
use Prim.Native.Nat.{ℕ, ◌+◌, ◌%◌, ◌<◌, ◌≤◌}
use native.Mathlib.Omega.{arith}
use native.Mathlib.Decide.{ℕ_discrete}
use lib.ListN.{length, get_or, take}
use lib.Ieee.{Float}
use Rattle.patch_geometry.specs.declared.Vec3.{Vec3}
use Rattle.stitch_boxes.specs.declared.Bounds.{Bounds}
use Rattle.stitch_boxes.specs.Boxes.{Within, empty_box, point_box, hull_v}
use Rattle.stitch_boxes.proofs.Points.{empty_box_lem, point_box_lem, hull_box, point_within, within_left, within_right}
use Rattle.stitch_boxes.specs.Points.{Point, BoxEnds}
use Rattle.lists.specs.Stretches.{front_at}
use Rattle.stitch_tree.specs.Nodes.{point_of, PointHeld, Pointed, PointsBounded}

-- the words from `from` up to j are bounded by b
pub record Bounding (ps : List Float) (from j : ℕ) (W : List ℕ) (b : Bounds) : Type 0 where
  pub here : from ≤ j
  pub bounded : PointsBounded ps from j W b

-- none is yet
pub bounding_none : (ps : List Float) (from : ℕ) (W : List ℕ) {b : Bounds} → b ≡ empty_box → Bounding ps from from W b
bounding_none ps from W e =
    record { here = omega arith; bounded = record { ends = subst BoxEnds (sym e) empty_box_lem; holds = λ j l h. absurd (omega arith) } }

module _ {ps : List Float} {v from to j : ℕ} {W : List ℕ} (g : Pointed ps v from to W) where
  -- a word of a point
  pub point_held : from ≤ j → j < to → PointHeld ps v j W
  point_held l h = record { all = g.all; below = g.below j l h; room = omega (arith, g.room) }

  module _ {b : Bounds} (c : Bounding ps from j W b) where
    -- one more is
    pub bounding_more : {p : Vec3} {q r : Bounds} → j < to → p ≡ point_of ps (get_or W j 0) → q ≡ point_box p → r ≡ hull_v b q → Bounding ps from (j + 1) W r
    bounding_more {p} {q} {r} l e f h =
        let o : r ≡ hull_v b (point_box (point_of ps (get_or W j 0))) = h ∙ ap (hull_v b) (f ∙ ap point_box e) in
        let P : Point (point_of ps (get_or W j 0)) = point (get_or W j 0) (g.below j c.here l) in
        let B = c.bounded.ends in
        record {
          here = omega (arith, c.here);
          bounded = record {
            ends = subst BoxEnds (sym o) (hull_box B (point_box_lem P));
            holds = λ i a k. subst (λ (z : Bounds). Within z (point_of ps (get_or W i 0))) (sym o) (go P B i a k (ℕ_discrete i j));
          };
        }
      where
        point : (o : ℕ) → o % 262144 < v → Point (point_of ps o)
        point o l = g.points (o % 262144) l

        go : Point (point_of ps (get_or W j 0)) → BoxEnds b → (i : ℕ) → from ≤ i → i < j + 1 → Dec (i ≡ j)
            → Within (hull_v b (point_box (point_of ps (get_or W j 0)))) (point_of ps (get_or W i 0))
        go P B i a k (yes z) =
            subst (λ (m : ℕ). Within (hull_v b (point_box (point_of ps (get_or W j 0)))) (point_of ps (get_or W m 0))) (sym z)
            (within_right P B (point_box_lem P) (point_within (point_of ps (get_or W j 0))))
        go P B i a k (no z) = within_left (point (get_or W i 0) (g.below i a (omega arith))) B (point_box_lem P) (c.bounded.holds i a (omega arith))

    -- all are
    pub bounding_all : to ≤ j → PointsBounded ps from to W b
    bounding_all l = record { ends = c.bounded.ends; holds = λ i a k. c.bounded.holds i a (omega arith) }

-- words in front of what was written are of the same points
pub pointed_front : {ps : List Float} {v from to q : ℕ} {W E : List ℕ} → Pointed ps v from to W → take q E ≡ take q W → to ≤ q → length E ≡ length W → Pointed ps v from to E
pointed_front {ps} {v} {from} {to} {q} {W} {E} g e l m = record {
  all = g.all;
  points = g.points;
  below = λ j a b. subst (λ (o : ℕ). o % 262144 < v) (sym (front_at q j W E 0 e (omega arith))) (g.below j a b);
  room = omega (arith, g.room);
}
