-- The boxes of leaves. Assumes nothing.
use mathlib.Core.Path.{◌≡◌, refl, sym, ap, ◌∙◌, subst}
use mathlib.Core.List.{List}
use Prim.Native.Nat.{ℕ, ◌+◌, ◌*◌, ◌/◌, ◌<◌, ◌≤◌}
use Rattle.std.specs.Prelude.{min}
use native.Mathlib.Omega.{arith}
use native.Mathlib.Decide.{ℕ_discrete}
use lib.ListN.{length, get_or, take, drop}
use lib.Ieee.{Float}
use Rattle.patch_geometry.specs.declared.Vec3.{Vec3}
use Rattle.stitch_boxes.specs.declared.Bounds.{Bounds}
use Rattle.stitch_boxes.specs.Boxes.{Within}
use Rattle.stitch_boxes.specs.Points.{BoxEnds}
use Rattle.lists.specs.Stretches.{front_at, front_less, rest_less}
use Rattle.stitch_tree.specs.Nodes.{point_of, box_at, BoxPut, Pointed, PointsBounded, LeafReady, LeafBounded, LeavesReady, LeavesBounded}
use Rattle.stitch_tree.proofs.WordLaws.{box_front}
use Rattle.stitch_tree.proofs.PointLaws.{pointed_front}

-- a box and a point by what they are
pub within_same : {A B : Bounds} {p q : Vec3} → A ≡ B → p ≡ q → Within B q → Within A p
within_same {A} {B} {p} {q} e f h = subst (λ (C : Bounds). Within C p) (sym e) (subst (Within B) (sym f) h)

-- ---- one leaf

-- ---- all leaves

-- i leaves have their boxes: W became E
pub record LeavesBounding (ps : List Float) (order n boxes leaves : ℕ) (W : List ℕ) (i : ℕ) (E : List ℕ) : Type 0 where
  pub ends : (q : ℕ) → q < i → BoxEnds (box_at E (boxes + 6 * (leaves + q)))
  pub holds : (j : ℕ) → j < n → j / 8 < i → Within (box_at E (boxes + 6 * (leaves + j / 8))) (point_of ps (get_or W (order + j) 0))
  pub front : take boxes E ≡ take boxes W
  pub rest : drop (boxes + 12 * leaves) E ≡ drop (boxes + 12 * leaves) W
  pub long : length E ≡ length W

-- none has
pub leaves_none : (ps : List Float) (order n boxes leaves : ℕ) (W : List ℕ) → LeavesBounding ps order n boxes leaves W 0 W
leaves_none ps order n boxes leaves W = record { ends = λ q l. absurd (omega arith); holds = λ j l h. absurd (omega arith); front = refl; rest = refl; long = refl }

module _ {ps : List Float} {v order n boxes leaves i : ℕ} {W E : List ℕ} (g : LeavesReady ps v order n boxes leaves W) (c : LeavesBounding ps order n boxes leaves W i E) where
  -- the next may have
  pub leaf_ready : i < leaves → LeafReady ps v order n i (boxes + 6 * (leaves + i)) E
  leaf_ready l = record {
    words = pointed_front g.words c.front g.apart c.long;
    inside = omega (arith, g.apart);
    room = omega (arith, g.room, c.long);
  }

  -- and has
  pub leaves_more : {F : List ℕ} → i < leaves → LeafBounded ps order n i (boxes + 6 * (leaves + i)) E F → length F ≡ length E → LeavesBounding ps order n boxes leaves W (i + 1) F
  leaves_more {F} l o e = record {
    ends = λ q h. has_ends q h (ℕ_discrete q i);
    holds = λ j a h. has_point j a h (ℕ_discrete (j / 8) i);
    front = front_less boxes (boxes + 6 * (leaves + i)) E F o.front (omega arith) ∙ c.front;
    rest = rest_less (boxes + 6 * (leaves + i) + 6) (boxes + 12 * leaves) E F o.rest (omega arith) ∙ c.rest;
    long = e ∙ c.long;
  }
    where
      kept : (q : ℕ) → q < i → box_at F (boxes + 6 * (leaves + q)) ≡ box_at E (boxes + 6 * (leaves + q))
      kept q h = box_front E F (boxes + 6 * (leaves + i)) (boxes + 6 * (leaves + q)) o.front (omega arith)

      has_ends : (q : ℕ) → q < i + 1 → Dec (q ≡ i) → BoxEnds (box_at F (boxes + 6 * (leaves + q)))
      has_ends q h (yes z) = subst (λ (x : ℕ). BoxEnds (box_at F (boxes + 6 * (leaves + x)))) (sym z) o.ends
      has_ends q h (no z) = let b : q < i = omega arith in subst BoxEnds (sym (kept q b)) (c.ends q b)

      has_point : (j : ℕ) → j < n → j / 8 < i + 1 → Dec (j / 8 ≡ i) → Within (box_at F (boxes + 6 * (leaves + j / 8))) (point_of ps (get_or W (order + j) 0))
      has_point j a h (yes z) =
          within_same (ap (λ (x : ℕ). box_at F (boxes + 6 * (leaves + x))) z)
          (ap (point_of ps) (sym (front_at boxes (order + j) W E 0 c.front (omega (arith, g.apart)))))
          (o.holds j a z)
      has_point j a h (no z) = let b : j / 8 < i = omega arith in within_same (kept (j / 8) b) refl (c.holds j a b)

  -- all have
  pub leaves_all : leaves ≤ i → LeavesBounded ps order n boxes leaves W E
  leaves_all l = record { ends = λ q h. c.ends q (omega arith); holds = λ j a h. c.holds j a (omega arith); front = c.front; rest = c.rest }
