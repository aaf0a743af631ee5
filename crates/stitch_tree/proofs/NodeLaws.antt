-- The boxes of the nodes above the leaves. Assumes nothing.
use mathlib.Core.Path.{◌≡◌, refl, sym, ap, ◌∙◌, subst}
use mathlib.Core.List.{List}
use Prim.Native.Nat.{ℕ, ◌+◌, ◌-◌, ◌*◌, ◌<◌, ◌≤◌}
use native.Mathlib.Omega.{arith}
use native.Mathlib.Decide.{ℕ_discrete}
use lib.ListN.{length, take, drop}
use Rattle.stitch_boxes.specs.declared.Bounds.{Bounds}
use Rattle.stitch_boxes.specs.Boxes.{hull_v}
use Rattle.lists.specs.Stretches.{front_less, rest_less}
use Rattle.stitch_tree.specs.Nodes.{box_at, BoxPut, Halved, NodeReady, NodeBounded, NodesReady, NodesBounded}
use Rattle.stitch_tree.proofs.WordLaws.{box_rest}

-- a hull by its halves
hull_same : {A B C D : Bounds} → A ≡ C → B ≡ D → hull_v A B ≡ hull_v C D
hull_same {A} {B} {C} {D} e f = ap (λ (X : Bounds). hull_v X B) e ∙ ap (hull_v C) f

-- ---- one node

pub node_bounded : {boxes k : ℕ} {W E : List ℕ} {a b h : Bounds} → NodeReady boxes k W → a ≡ box_at W (boxes + 6 * (2 * k)) → b ≡ box_at W (boxes + 6 * (2 * k + 1)) → h ≡ hull_v a b
    → BoxPut (boxes + 6 * k) h W E → NodeBounded boxes k W E
node_bounded {boxes} {k} {W} {E} g e f m o = record {
  hull = o.is ∙ m ∙ hull_same (e ∙ sym (kept (2 * k) (omega (arith, g.inner)))) (f ∙ sym (kept (2 * k + 1) (omega (arith, g.inner))));
  front = o.front;
  rest = rest_less (boxes + 6 * k + 6) (boxes + 6 * (k + 1)) W E o.rest (omega arith);
}
  where
    kept : (q : ℕ) → k < q → box_at E (boxes + 6 * q) ≡ box_at W (boxes + 6 * q)
    kept q l = box_rest W E (boxes + 6 * k + 6) (boxes + 6 * q) o.rest (omega arith)

-- ---- all nodes

-- the nodes from k on have their boxes: W became E
pub record NodesBounding (boxes leaves : ℕ) (W : List ℕ) (k : ℕ) (E : List ℕ) : Type 0 where
  pub low : k ≤ leaves
  pub hulls : (q : ℕ) → k ≤ q → q < leaves → Halved boxes E q
  pub front : take boxes E ≡ take boxes W
  pub rest : drop (boxes + 6 * leaves) E ≡ drop (boxes + 6 * leaves) W
  pub long : length E ≡ length W

module _ {boxes leaves : ℕ} {W : List ℕ} (g : NodesReady boxes leaves W) where
  -- none has
  pub nodes_none : NodesBounding boxes leaves W leaves W
  nodes_none = record { low = omega arith; hulls = λ q l h. absurd (omega arith); front = refl; rest = refl; long = refl }

  module _ {k : ℕ} {E : List ℕ} (c : NodesBounding boxes leaves W k E) where
    -- the one before may have
    pub node_ready : 1 < k → NodeReady boxes (k - 1) E
    node_ready l = record { inner = omega arith; room = omega (arith, g.room, c.low, c.long) }

    -- and has
    pub nodes_more : {F : List ℕ} → 1 < k → NodeBounded boxes (k - 1) E F → length F ≡ length E → NodesBounding boxes leaves W (k - 1) F
    nodes_more {F} l o e = record {
      low = omega (arith, c.low);
      hulls = λ q a h. halved q a h (ℕ_discrete q (k - 1));
      front = front_less boxes (boxes + 6 * (k - 1)) E F o.front (omega arith) ∙ c.front;
      rest = rest_less (boxes + 6 * (k - 1 + 1)) (boxes + 6 * leaves) E F o.rest (omega (arith, c.low)) ∙ c.rest;
      long = e ∙ c.long;
    }
      where
        kept : (q : ℕ) → k ≤ q → box_at F (boxes + 6 * q) ≡ box_at E (boxes + 6 * q)
        kept q h = box_rest E F (boxes + 6 * (k - 1 + 1)) (boxes + 6 * q) o.rest (omega arith)

        halved : (q : ℕ) → k - 1 ≤ q → q < leaves → Dec (q ≡ k - 1) → Halved boxes F q
        halved q a h (yes z) = subst (Halved boxes F) (sym z) o.hull
        halved q a h (no z) =
            let b : k ≤ q = omega arith in
            kept q b ∙ c.hulls q b h ∙ sym (hull_same (kept (2 * q) (omega arith)) (kept (2 * q + 1) (omega arith)))

    -- all have
    pub nodes_all : k ≤ 1 → NodesBounded boxes leaves W E
    nodes_all l = record { hulls = λ q a h. c.hulls q (omega arith) h; front = c.front; rest = c.rest }
