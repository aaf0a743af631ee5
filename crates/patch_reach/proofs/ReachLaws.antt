-- The loop of `reach_from` follows `reach_from`: what is left to look at gives the same at each turn; and the escape. Assumes nothing.
use mathlib.Core.Path.{◌≡◌, refl, sym, ap, ◌∙◌, subst}
use mathlib.Core.Bool.{Bool, true, false, cond}
use mathlib.Core.List.{List, [], ◌∷◌}
use Prim.Native.Nat.{ℕ, suc, ◌+◌, ◌*◌, ◌/◌, ◌≤◌, ◌<◌}
use native.Mathlib.Numerals.{towards_suc}
use native.Mathlib.Omega.{arith}
use lib.ListN.{length, get_or, drop, length-drop}
use lib.Seq.{drop-cons}
use lib.Ieee as Ieee
use lib.Ieee.{Float, nan, binary64, lt}
use lib.Ieee.Bits.{of_bits-fits}
use Rattle.float_sqrt.specs.Roots.{sqrt}
use Rattle.float_steps.specs.Floats.{negative, larger}
use Rattle.float_steps.specs.Plus.{Plus, plus_square, plus_sum, plus_larger}
use Rattle.float_sqrt.specs.RootLarger.{root_larger}
use Rattle.patch_geometry.specs.declared.Vec3.{Vec3}
use Rattle.patch_geometry.specs.declared.Aabb.{Aabb}
use Rattle.patch_geometry.specs.Geometry.{add, mul, zero64, zero_v, pick_v, sub_v, dot, length_v, vertex_at, is_empty, centre, centre_of, diagonal}
use Rattle.patch_measures.specs.Reach.{square_at, reach_from, farthest, escapes_body}

-- the square of a vertex's distance from its difference
pub square_is : (ps : List Float) (k : ℕ) (c : Vec3) {p d : Vec3} {r : Float} → p ≡ vertex_at ps k → d ≡ sub_v p c → r ≡ dot d d → r ≡ square_at ps k c
square_is ps k c e f g = g ∙ ap (λ (v : Vec3). dot v v) (f ∙ ap (λ (v : Vec3). sub_v v c) e)

-- no sign keeps it from having a root
square_plus : (p : Vec3) → Plus (dot p p)
square_plus p =
    plus_sum (add (mul p.x p.x) (mul p.y p.y)) (mul p.z p.z)
    (plus_sum (mul p.x p.x) (mul p.y p.y) (plus_square p.x) (plus_square p.y))
    (plus_square p.z)

-- nor zero, which is its own root
zero_plus : Plus zero64
unfolding negative Ieee.of_bits
zero_plus = record { f64 = of_bits-fits binary64 0; plus = refl }

zero_root : sqrt zero64 ≡ zero64
unfolding sqrt Ieee.of_bits
zero_root = refl

-- the vertex at k, and those behind it
reach_next : (c : Vec3) (r : Float) (ps : List Float) (k : ℕ) → k + 2 < length ps → reach_from c r (drop k ps) ≡ reach_from c (larger r (sqrt (square_at ps k c))) (drop (k + 3) ps)
unfolding reach_from length_v
reach_next c r ps k h =
    simp towards_suc
    (ap (reach_from c r)
    (drop-cons ps k nan (omega arith)
    ∙ ap (λ (t : List Float). get_or ps k nan ∷ t) (drop-cons ps (suc k) nan (omega arith) ∙ ap (λ (t : List Float). get_or ps (suc k) nan ∷ t) (drop-cons ps (suc (suc k)) nan (omega arith)))))

-- fewer than three coordinates are no vertex
reach_end : (c : Vec3) (r : Float) (ps : List Float) → length ps < 3 → reach_from c r ps ≡ r
unfolding reach_from
reach_end c r [] h = refl
reach_end c r (x ∷ []) h = refl
reach_end c r (x ∷ y ∷ []) h = refl
reach_end c r (x ∷ y ∷ z ∷ ps) h = absurd (no (length ps) h)
  where
    no : (n : ℕ) → suc (suc (suc n)) < 3 → ⊥
    no n l = omega arith

-- with i vertices passed the root of the square so far is such that the rest gives the whole
pub record Reaching (ps : List Float) (c : Vec3) (i : ℕ) (far : Float) : Type 0 where
  pub plus : Plus far
  pub rest : reach_from c (sqrt far) (drop (3 * i) ps) ≡ reach_from c zero64 ps

-- no vertex is passed yet
pub reaching_none : (ps : List Float) (c : Vec3) → Reaching ps c 0 zero64
reaching_none ps c = record { plus = zero_plus; rest = ap (λ (x : Float). reach_from c x ps) zero_root }

-- vertex i is passed
pub reaching_more : {ps : List Float} {c : Vec3} {i : ℕ} {far d r : Float} → Reaching ps c i far → i < length ps / 3 → d ≡ square_at ps (3 * i) c → r ≡ larger far d
    → Reaching ps c (i + 1) r
reaching_more {ps} {c} {i} {far} {d} {r} s h e f = record {
  plus = subst Plus (sym next) (plus_larger far (square_at ps (3 * i) c) s.plus own);
  rest =
      ap (λ (n : ℕ). reach_from c (sqrt r) (drop n ps)) behind
      ∙ ap (λ (x : Float). reach_from c (sqrt x) (drop (3 * i + 3) ps)) next
      ∙ ap (λ (x : Float). reach_from c x (drop (3 * i + 3) ps)) (root_larger far (square_at ps (3 * i) c) s.plus own)
      ∙ sym (reach_next c (sqrt far) ps (3 * i) (omega arith))
      ∙ s.rest;
}
  where
    behind : 3 * (i + 1) ≡ 3 * i + 3
    behind = omega arith

    own : Plus (square_at ps (3 * i) c)
    own = square_plus (sub_v (vertex_at ps (3 * i)) c)

    next : r ≡ larger far (square_at ps (3 * i) c)
    next = f ∙ ap (larger far) e

-- every vertex is: the root is taken
pub reaching_all : {ps : List Float} {c : Vec3} {i : ℕ} {far r : Float} → Reaching ps c i far → length ps / 3 ≤ i → r ≡ sqrt far → r ≡ reach_from c zero64 ps
reaching_all {ps} {c} {i} {far} s h e = e ∙ sym (reach_end c (sqrt far) (drop (3 * i) ps) (simp length-drop (omega arith))) ∙ s.rest

module _ (ps : List Float) (box : Aabb) {e : Bool} (test : e ≡ is_empty box) where
  -- the reach in a box that is empty, and in one that is not
  pub farthest_empty : e ≡ true → zero64 ≡ farthest ps box
  unfolding farthest
  farthest_empty t = ap (λ (b : Bool). cond b zero64 (reach_from (centre box) zero64 ps)) (sym t ∙ test)

  -- the reach in another
  pub farthest_is : {c : Vec3} {r : Float} → e ≡ false → c ≡ centre_of box → r ≡ reach_from c zero64 ps → r ≡ farthest ps box
  unfolding farthest
  farthest_is t p q =
      q ∙ ap (λ (v : Vec3). reach_from v zero64 ps) (p ∙ ap (λ (b : Bool). pick_v b zero_v (centre box)) (sym test ∙ t))
      ∙ ap (λ (b : Bool). cond b zero64 (reach_from (centre box) zero64 ps)) (sym t ∙ test)

  -- the escape in a box that is empty, that spans nothing, and that spans something
  pub escapes_empty : e ≡ true → false ≡ escapes_body ps box
  unfolding escapes_body
  escapes_empty t = rw (sym test, t)

  module _ (t : e ≡ false) {span : Float} (s : span ≡ diagonal box) where
    -- nothing escapes a box that spans nothing
    pub escapes_point : lt zero64 span ≡ false → false ≡ escapes_body ps box
    unfolding escapes_body
    escapes_point h = rw (sym test, t, sym s, h)

    -- another box: the reach decides
    pub escapes_is : {far : Float} → lt zero64 span ≡ true → far ≡ farthest ps box → lt span far ≡ escapes_body ps box
    unfolding escapes_body
    escapes_is h f = rw (sym test, t, sym s, h, f)
