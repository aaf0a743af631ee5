-- The tree: its height, the boxes of its nodes from those of its leaves, and what making it leaves. Assumes nothing.
use mathlib.Core.Path.{◌≡◌, refl, sym, ap, ◌∙◌, subst}
use mathlib.Core.List.{List}
use Prim.Native.Nat.{ℕ, zero, suc, ◌+◌, ◌-◌, ◌*◌, ◌/◌, ◌%◌, ◌^◌, ◌<◌, ◌≤◌}
use native.Mathlib.Nat.{div-div-eq-div-mul, div-one, le-div_iff_mul-le}
use native.Mathlib.Numerals.{add-one}
use native.Mathlib.Omega.{arith}
use native.Mathlib.Decide.{ℕ_discrete, dec_lt}
use lib.ListN.{length, get_or, take, drop}
use lib.Pow.{pow_pos, pow_mono, shr_le}
use lib.Ieee.{Float}
use Rattle.patch_geometry.specs.declared.Vec3.{Vec3}
use Rattle.stitch_boxes.specs.Boxes.{Within}
use Rattle.stitch_boxes.proofs.Points.{hull_box, within_left, within_right}
use Rattle.stitch_boxes.specs.Points.{Point, BoxEnds}
use Rattle.lists.specs.Stretches.{stretch_kept, front_at, front_less, rest_at, rest_less}
use Rattle.slice_pairs.specs.Rearranged.{Rearranged}
use Rattle.stitch_tree.specs.Nodes.{point_of, box_at, Pointed, LeavesReady, LeavesBounded, NodesReady, NodesBounded}
use Rattle.stitch_tree.specs.Ordering.{Permuted, OrderReady}
use Rattle.stitch_tree.specs.Trees.{HeightOf, TreeReady, TreeMade}
use Rattle.stitch_tree.proofs.WordLaws.{box_rest}
use Rattle.stitch_tree.proofs.LeafLaws.{within_same}
use Rattle.stitch_tree.proofs.OrderLaws.{pointed_permuted}

power : (k : ℕ) → 2 ^ suc k ≡ 2 * 2 ^ k
power k = omega arith

-- ---- the height

-- a tree of height h is not higher than it must be, and has so much room
pub record Rising (n h room : ℕ) : Type 0 where
  pub is : room ≡ 8 * 2 ^ h
  pub some : 8 ≤ room
  pub low : h ≤ 17
  pub least : (b : ℕ) → 12 ≤ b → 3 * n ≤ b → 12 * 2 ^ h ≤ b

-- ---- what the steps ask

module _ {ps : List Float} {v order n boxes top leaves : ℕ} {W : List ℕ} (g : TreeReady ps v order n boxes W) (t : HeightOf n top) (p : leaves ≡ 2 ^ top) where
  -- the boxes have room
  boxes_room : boxes + 12 * leaves ≤ length W
  boxes_room = let l = t.least (length W - boxes) (omega (arith, g.least)) (omega (arith, g.room)) in omega (arith, g.least, p)

  -- there are few leaves
  leaves_few : leaves ≤ 131072
  leaves_few = let q : 2 ^ top ≤ 2 ^ 17 = pow_mono t.low in omega (arith, p)

  words : Pointed ps v order (order + n) W
  words = record {
    all = g.all;
    points = g.points;
    below = λ j a b.
        let e : order + (j - order) ≡ j = omega arith in
        subst (λ (i : ℕ). get_or W i 0 % 262144 < v) e (g.below (j - order) (omega arith));
    room = omega (arith, g.apart, g.room);
  }

  pub order_ready : OrderReady ps v order n leaves W
  order_ready = record { words = words; few = g.few; small = leaves_few }

  module _ {X : List ℕ} (o : Permuted order (order + n) W X) where
    ordered_words : Pointed ps v order (order + n) X
    ordered_words = pointed_permuted words (omega arith) o

    pub leaves_ready : LeavesReady ps v order n boxes leaves X
    leaves_ready = record { words = ordered_words; apart = g.apart; room = omega (arith, boxes_room, o.long) }

    module _ {Y : List ℕ} (l : LeavesBounded ps order n boxes leaves X Y) (ly : length Y ≡ length X) where
      pub nodes_ready : NodesReady boxes leaves Y
      nodes_ready = record { some = omega (arith, p, pow_pos top); room = omega (arith, boxes_room, o.long) }

      module _ {E : List ℕ} (m : NodesBounded boxes leaves Y E) (le : length E ≡ length Y) where
        -- a leaf's box is as it was
        leaf_kept : (i : ℕ) → box_at E (boxes + 6 * (leaves + i)) ≡ box_at Y (boxes + 6 * (leaves + i))
        leaf_kept i = box_rest Y E (boxes + 6 * leaves) (boxes + 6 * (leaves + i)) m.rest (omega arith)

        -- so is a word
        word_kept : (k : ℕ) → k < boxes → get_or E k 0 ≡ get_or X k 0
        word_kept k h = front_at boxes k Y E 0 m.front h ∙ front_at boxes k X Y 0 l.front h

        -- the boxes have proper ends, from the leaves up
        node_ends : (d k : ℕ) → 2 * leaves ≤ k + d → 1 ≤ k → k < 2 * leaves → BoxEnds (box_at E (boxes + 6 * k))
        node_ends zero k a b h = absurd (omega arith)
        node_ends (suc d) k a b h = go (dec_lt k leaves) (λ q x y z. node_ends d q x y z)
          where
            go : Dec (k < leaves) → ((q : ℕ) → 2 * leaves ≤ q + d → 1 ≤ q → q < 2 * leaves → BoxEnds (box_at E (boxes + 6 * q))) → BoxEnds (box_at E (boxes + 6 * k))
            go (yes z) half =
                subst BoxEnds (sym (m.hulls k b z)) (hull_box (half (2 * k) (omega arith) (omega arith) (omega arith)) (half (2 * k + 1) (omega arith) (omega arith) (omega arith)))
            go (no z) half =
                let e : leaves + (k - leaves) ≡ k = omega arith in
                subst (λ (q : ℕ). BoxEnds (box_at E (boxes + 6 * q))) e (subst BoxEnds (sym (leaf_kept (k - leaves))) (l.ends (k - leaves) (omega arith)))

        ends : (k : ℕ) → 1 ≤ k → k < 2 * leaves → BoxEnds (box_at E (boxes + 6 * k))
        ends k a h = node_ends (2 * leaves) k (omega arith) a h

        -- what a half holds, its node holds
        half_held : (q : ℕ) (r : Vec3) → Point r → 2 ≤ q → q < 2 * leaves → Within (box_at E (boxes + 6 * q)) r → Within (box_at E (boxes + 6 * (q / 2))) r
        half_held q r R a h w = go (ℕ_discrete (2 * (q / 2)) q)
          where
            first : BoxEnds (box_at E (boxes + 6 * (2 * (q / 2))))
            first = ends (2 * (q / 2)) (omega arith) (omega arith)

            second : BoxEnds (box_at E (boxes + 6 * (2 * (q / 2) + 1)))
            second = ends (2 * (q / 2) + 1) (omega arith) (omega arith)

            go : Dec (2 * (q / 2) ≡ q) → Within (box_at E (boxes + 6 * (q / 2))) r
            go (yes z) =
                within_same (m.hulls (q / 2) (omega arith) (omega arith)) refl
                (within_left R first second (subst (λ (x : ℕ). Within (box_at E (boxes + 6 * x)) r) (sym z) w))
            go (no z) =
                let e : 2 * (q / 2) + 1 ≡ q = omega arith in
                within_same (m.hulls (q / 2) (omega arith) (omega arith)) refl
                (within_right R first second (subst (λ (x : ℕ). Within (box_at E (boxes + 6 * x)) r) (sym e) w))

        -- and so the nodes above a leaf hold its points
        holds : (j h : ℕ) → j < n → h ≤ top → Within (box_at E (boxes + 6 * ((2 ^ top + j / 8) / 2 ^ h))) (point_of ps (get_or X (order + j) 0))
        holds j zero a b =
            let e : (2 ^ top + j / 8) / 2 ^ 0 ≡ leaves + j / 8 = div-one (2 ^ top + j / 8) ∙ ap (λ (x : ℕ). x + j / 8) (sym p) in
            within_same (ap (λ (x : ℕ). box_at E (boxes + 6 * x)) e ∙ leaf_kept (j / 8)) refl (l.holds j a (omega (arith, t.few, p)))
        holds j (suc h) a b =
            let i = 2 ^ top + j / 8 in
            let e : i / 2 ^ suc h ≡ i / 2 ^ h / 2 = ap (λ (x : ℕ). i / x) (power h ∙ omega arith) ∙ sym (div-div-eq-div-mul i (2 ^ h) 2) in
            let r = point_of ps (get_or X (order + j) 0) in
            within_same (ap (λ (x : ℕ). box_at E (boxes + 6 * x)) e) refl
            (half_held (i / 2 ^ h) r (ordered_words.points (get_or X (order + j) 0 % 262144) (ordered_words.below (order + j) (omega arith) (omega arith)))
            (at_least h b (2 ^ top + j / 8) (omega arith)) (below h (2 ^ top + j / 8) (omega (arith, t.few, p)))
            (holds j h a (omega arith)))
          where
            at_least : (h : ℕ) → suc h ≤ top → (i : ℕ) → 2 ^ top ≤ i → 2 ≤ i / 2 ^ h
            at_least h b i l = (le-div_iff_mul-le (pow_pos h)).1 (let q : 2 ^ suc h ≤ 2 ^ top = pow_mono b in omega (arith, power h))

            below : (h i : ℕ) → i < 2 * leaves → i / 2 ^ h < 2 * leaves
            below h i l = omega (arith, shr_le i h)

        -- the tree is made
        pub tree_made : TreeMade ps v order n boxes W E top
        tree_made = record {
          boxed = record {
            few = t.few;
            ends = λ k a h. ends k a (omega (arith, p));
            holds = λ j h a b. within_same refl (ap (point_of ps) (word_kept (order + j) (omega (arith, g.apart)))) (holds j h a b);
          };
          low = t.low;
          same =
              subst (λ (xs : List ℕ). Rearranged xs (take n (drop order W))) (sym (stretch_kept order n boxes Y E m.front g.apart ∙ stretch_kept order n boxes X Y l.front g.apart))
              (o.same order n (omega arith) (omega arith) (omega (arith, g.apart, g.least)));
          front = front_less order boxes Y E m.front (omega (arith, g.apart)) ∙ front_less order boxes X Y l.front (omega (arith, g.apart)) ∙ o.front;
          between = λ k a h. word_kept k h ∙ rest_at (order + n) k W X 0 o.rest a;
          inside = omega (arith, boxes_room, o.long, ly, le, p);
          rest = λ b a h.
              let r : boxes + 12 * leaves ≤ b = let z = t.least (b - boxes) (omega arith) (omega arith) in omega (arith, p) in
              rest_less (boxes + 6 * leaves) b Y E m.rest (omega arith)
              ∙ rest_less (boxes + 12 * leaves) b X Y l.rest r
              ∙ rest_less (order + n) b W X o.rest (omega (arith, g.apart));
        }
