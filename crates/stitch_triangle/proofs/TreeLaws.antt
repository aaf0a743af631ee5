-- Laws of the search over blocks: a node passed over, a block tried, and all loose vertices found. Assumes nothing.
use mathlib.Core.Path.{◌≡◌, refl, sym, ap, ◌∙◌, subst}
use mathlib.Core.Bool.{Bool, true, false, not}
use mathlib.Core.List.{List, [], ◌∷◌, ◌++◌}
use Prim.Native.Nat.{ℕ, zero, suc, ◌+◌, ◌-◌, ◌*◌, ◌/◌, ◌%◌, ◌^◌, ◌<◌, ◌≤◌}
use native.Mathlib.Nat.{mod-eq_of_lt}
use native.Mathlib.Omega.{arith}
use lib.ListN.{length, get_or, take, drop, length-take, length-drop}
use lib.Seq.{get_or-take, get_or-drop, take-add, take_all, length-take-le}
use lib.Pow.{pow_pos, pow_mono}
use lib.Ieee.{Float}
use Rattle.lists.specs.Stretches.{stretch_at, stretch_kept, front_at, front_less, rest_less, rest_at}
use Rattle.patch_geometry.specs.Geometry.{point_at}
use Rattle.stitch_projection.specs.declared.Edge.{Edge}
use Rattle.stitch_projection.specs.Projection.{edge_of, within_sag}
use Rattle.stitch_boxes.specs.Boxes.{far, Within}
use Rattle.stitch_boxes.proofs.Points.{passed_over}
use Rattle.stitch_tree.specs.Nodes.{box_at, point_of}
use Rattle.stitch_tree.specs.Kept.{box_kept}
use Rattle.stitch_splits.specs.declared.sides.TriangleEdge.{TriangleEdge}
use Rattle.stitch_splits.specs.declared.sides.Sides.{Sides}
use Rattle.stitch_splits.specs.Found.{side_of, found_only}
use Rattle.stitch_splits.specs.SideLaws.{closed_finds_none, far_is_not_found}
use Rattle.stitch_triangle.specs.Triangle.{is_found, Ordered, FoundIn, block_of, BlockReady, BoxReady, NodeAt, RaiseReady, Raised, PointEdge, FindOn}
use Rattle.stitch_triangle.proofs.NodeLaws.{same_node, node_some, node_low, next_first, any_first, one_lower}
use Rattle.stitch_triangle.proofs.SearchLaws.{found_no, found_then, ordered_kept}

-- the leaves before `leaf` are done: W became E
pub record Searching (ps : List Float) (sag : Float) (s : Sides) (v order count highest e at ts found placed : ℕ) (W : List ℕ) (total entries leaf height : ℕ) (E : List ℕ) : Type 0 where
  pub low : height ≤ highest
  pub few : leaf ≤ 262144
  pub first : leaf % 2 ^ height ≡ 0
  pub so_far : FoundIn ps sag s v e at ts found placed (take (8 * leaf) (take count (drop order W))) W E total entries
  pub long : length E ≡ length W

-- a test that turns false
shut : (b : Bool) → not b ≡ true → b ≡ false
shut true z = sym z
shut false z = refl

module _ {ps : List Float} {sag beyond : Float} {s : Sides} {v order count boxes top e at ts found placed : ℕ} {W : List ℕ}
    (g : FindOn ps sag beyond s v order count boxes top e at ts found placed W) where
  -- an edge that is not open finds nothing
  pub search_closed : {x : TriangleEdge} → x ≡ side_of s e → not x.is_open ≡ true → FoundIn ps sag s v e at ts found placed (take count (drop order W)) W W found placed
  search_closed {x} ex h = found_no (take count (drop order W)) (λ j b. closed_finds_none sag s e _ _ (ap (λ (x : TriangleEdge). x.is_open) (sym ex) ∙ shut x.is_open h))

module _ {ps : List Float} {sag beyond : Float} {s : Sides} {v order count boxes top e at ts found placed : ℕ} {W : List ℕ}
    (g : FindOn ps sag beyond s v order count boxes top e at ts found placed W) {highest : ℕ} (m : highest ≤ top) where
  abbrev os : List ℕ
  os = take count (drop order W)

  os_long : length os ≡ count
  os_long = length-take-le count (drop order W) (omega (arith, length-drop order W, g.ordered.room))

  -- no leaf is done yet
  pub searching_none : Searching ps sag s v order count highest e at ts found placed W found placed 0 highest W
  searching_none =
      record { low = omega arith; few = omega arith; first = none (2 ^ highest) (pow_pos highest); so_far = found_no [] (λ j b. absurd (omega arith)); long = refl }
    where
      none : (d : ℕ) → 0 < d → 0 % d ≡ 0
      none d p = mod-eq_of_lt p

  module _ {total entries leaf height : ℕ} {E : List ℕ} (f : Searching ps sag s v order count highest e at ts found placed W total entries leaf height E) (l : 8 * leaf < count) where
    low : height ≤ top
    low = omega (arith, f.low, m)

    some : 0 < count
    some = omega arith

    done_long : length (take (8 * leaf) os) ≡ 8 * leaf
    done_long = length-take-le (8 * leaf) os (omega (arith, os_long))

    leaf_inside : leaf < 2 ^ top
    leaf_inside = under (2 ^ top) (g.boxed some).few
      where
        under : (t : ℕ) → count ≤ 8 * t → leaf < t
        under t h = omega arith

    top_few : 2 ^ top ≤ 131072
    top_few = pow_mono g.low

    -- the leaf behind the node is not far
    pub leaf_few : {k : ℕ} → k ≡ 2 ^ height → leaf + k ≤ 262144
    leaf_few {k} ek = under (2 ^ height) (2 ^ top) ek leaf_inside (pow_mono low) top_few
      where
        under : (d t : ℕ) → k ≡ d → leaf < t → d ≤ t → t ≤ 131072 → leaf + k ≤ 262144
        under d t e p q r = omega arith

    -- fewer leaves are left behind it
    pub fewer : {k height' : ℕ} → 0 < k → height' ≤ highest → 18 * (2 ^ top - (leaf + k)) + height' < 18 * (2 ^ top - leaf) + height
    fewer {k} {height'} p q = under (2 ^ top) leaf_inside
      where
        under : (t : ℕ) → leaf < t → 18 * (t - (leaf + k)) + height' < 18 * (t - leaf) + height
        under t a = omega (arith, g.low, m)

    -- so behind a node
    pub fewer_passed : {k height' : ℕ} → k ≡ 2 ^ height → Raised (leaf + k) height highest height' → 18 * (2 ^ top - (leaf + k)) + height' < 18 * (2 ^ top - leaf) + height
    fewer_passed {k} {height'} ek d = fewer (subst (λ (n : ℕ). 0 < n) (sym ek) (pow_pos height)) d.low

    -- and behind a leaf
    pub fewer_tried : {height' : ℕ} → Raised (leaf + 1) 0 highest height' → 18 * (2 ^ top - (leaf + 1)) + height' < 18 * (2 ^ top - leaf) + height
    fewer_tried d = fewer (omega arith) d.low

    pub node_here : NodeAt leaf height top
    node_here = record { inside = leaf_inside; low = low; small = g.low; first = f.first }

    -- the node's box can be looked at
    pub box_ready : BoxReady boxes leaf height top E
    box_ready = record { node = node_here; room = subst (λ (n : ℕ). boxes + 12 * 2 ^ top ≤ n) (sym f.long) (g.boxes_room some) }

    -- what is behind the pairs is as it was
    word_kept : (k : ℕ) → boxes ≤ k → get_or E k 0 ≡ get_or W k 0
    word_kept k b = rest_at (ts + placed + length (take (8 * leaf) os)) k W E 0 f.so_far.rest (omega (arith, done_long, g.room))

    node_kept : (k : ℕ) → boxes ≤ k → box_at E k ≡ box_at W k
    node_kept k b = box_kept k W E (λ j h. word_kept j (omega arith))

    abbrev node : ℕ
    node = (2 ^ top + leaf) / 2 ^ height

    -- no vertex of a far node is found
    module _ {x : TriangleEdge} {r : Bool} (ex : x ≡ side_of s e) (er : r ≡ far (box_at E (boxes + 6 * node)) x.edge beyond) (h : r ≡ true) where
      far_there : far (box_at W (boxes + 6 * node)) (side_of s e).edge beyond ≡ true
      far_there =
          (λ i. far (sym (node_kept (boxes + 6 * node) (omega arith)) i) (side_of s e).edge beyond)
          ∙ (λ i. far (box_at E (boxes + 6 * node)) (sym ex i).edge beyond)
          ∙ sym er
          ∙ h

      -- the point of word j
      out : (j : ℕ) → j < count → leaf ≤ j / 8 → j / 8 < leaf + 2 ^ height → within_sag sag (side_of s e).edge (point_of ps (get_or W (order + j) 0)) ≡ false
      out j b a c =
          let same : (2 ^ top + j / 8) / 2 ^ height ≡ node = same_node leaf height top (j / 8) f.first low a c in
          let p = g.pointed in
          subst (λ (d : Edge). within_sag sag d (point_of ps (get_or W (order + j) 0)) ≡ false) (sym p.is)
          (passed_over sag beyond p.p p.q (point_of ps (get_or W (order + j) 0)) (box_at W (boxes + 6 * node)) p.start p.end
          (g.points (get_or W (order + j) 0 % 262144) (g.ordered.below j b)) ((g.boxed some).ends node (node_some node_here) (node_low node_here))
          (subst (λ (k : ℕ). Within (box_at W (boxes + 6 * k)) (point_of ps (get_or W (order + j) 0))) same ((g.boxed some).holds j height b low)) g.far
          (subst (λ (d : Edge). far (box_at W (boxes + 6 * node)) d beyond ≡ true) p.is far_there))

      -- nor any word of the node's leaves
      none_found : (j : ℕ) → j < length (take (8 * 2 ^ height) (drop (8 * leaf) os)) → is_found sag ps (take v E) s e (get_or (take (8 * 2 ^ height) (drop (8 * leaf) os)) j 0) ≡ false
      none_found j b =
          let n = 8 * 2 ^ height in
          let inside = in_stretch n j b in
          let word : get_or (take n (drop (8 * leaf) os)) j 0 ≡ get_or W (order + (8 * leaf + j)) 0 =
          get_or-take n (drop (8 * leaf) os) j 0 inside.0 ∙ get_or-drop (8 * leaf) os j 0 ∙ stretch_at order count W (8 * leaf + j) 0 inside.1 in
          ap (is_found sag ps (take v E) s e) word
          ∙ far_is_not_found sag s e _ _ (out (8 * leaf + j) inside.1 low_leaf (high_leaf (2 ^ height) inside.0))
        where
          in_stretch : (n j : ℕ) → j < length (take n (drop (8 * leaf) os)) → (j < n) × (8 * leaf + j < count)
          in_stretch n j b =
              let a = length-take n (drop (8 * leaf) os) in
              (omega (arith, a), omega (arith, a, length-drop (8 * leaf) os, os_long))

          low_leaf : leaf ≤ (8 * leaf + j) / 8
          low_leaf = omega arith

          high_leaf : (d : ℕ) → j < 8 * d → (8 * leaf + j) / 8 < leaf + d
          high_leaf d h = omega arith

      -- the node is passed over
      pub searching_passed : {k height' : ℕ} → k ≡ 2 ^ height → Raised (leaf + k) height highest height'
          → Searching ps sag s v order count highest e at ts found placed W total entries (leaf + k) height' E
      searching_passed {k} {height'} ek d =
          record {
            low = d.low;
            few = leaf_few ek;
            first = d.first (subst (λ (n : ℕ). (leaf + n) % 2 ^ height ≡ 0) (sym ek) (next_first leaf height f.first));
            so_far =
                subst (λ (xs : List ℕ). FoundIn ps sag s v e at ts found placed xs W E total entries)
                (sym (ap (λ (n : ℕ). take n os) (sum k (2 ^ height) ek) ∙ take-add (8 * leaf) (8 * 2 ^ height) os))
                (found_then (omega (arith, g.ordered.behind, g.behind)) f.so_far (found_no (take (8 * 2 ^ height) (drop (8 * leaf) os)) none_found));
            long = f.long;
          }
        where
          sum : (k d : ℕ) → k ≡ d → 8 * (leaf + k) ≡ 8 * leaf + 8 * d
          sum k d z = omega arith

    -- its halves are looked at
    pub searching_lower : 0 < height → Searching ps sag s v order count highest e at ts found placed W total entries leaf (height - 1) E
    searching_lower p = record { low = omega (arith, f.low); few = f.few; first = half; so_far = f.so_far; long = f.long }
      where
        half : leaf % 2 ^ (height - 1) ≡ 0
        half = one_lower leaf (height - 1) (ap (λ (k : ℕ). leaf % 2 ^ k) (let z : 1 + (height - 1) ≡ height = omega arith in z) ∙ f.first)

    -- a leaf can be tried
    pub block_ready : BlockReady ps sag beyond v order count (8 * leaf) e at ts total entries E
    block_ready =
        record {
          ordered = ordered_kept g.ordered g.behind f.so_far.front f.long;
          inside = l;
          behind = g.behind;
          apart = omega (arith, f.so_far.few, done_long, g.apart);
          room = omega (arith, f.so_far.few, done_long, f.long, g.long);
          edge = g.edge;
          countable = omega (arith, f.so_far.bound, done_long, g.countable);
          far = g.far;
        }

    -- it is
    pub searching_tried : {total' entries' height' : ℕ} {F : List ℕ} → FoundIn ps sag s v e at ts total entries (block_of E order count (8 * leaf)) E F total' entries' → length F ≡ length E
        → Raised (leaf + 1) 0 highest height' → Searching ps sag s v order count highest e at ts found placed W total' entries' (leaf + 1) height' F
    searching_tried {total'} {entries'} {height'} {F} d lf r =
        let same : take count (drop order E) ≡ os = stretch_kept order count at W E f.so_far.front g.behind in
        record {
          low = r.low;
          few = under (2 ^ top) leaf_inside top_few;
          first = r.first (any_first (leaf + 1));
          so_far =
              subst (λ (xs : List ℕ). FoundIn ps sag s v e at ts found placed xs W F total' entries')
              (ap (λ (xs : List ℕ). take (8 * leaf) os ++ take 8 (drop (8 * leaf) xs)) same
              ∙ sym (ap (λ (n : ℕ). take n os) (let z : 8 * (leaf + 1) ≡ 8 * leaf + 8 = omega arith in z) ∙ take-add (8 * leaf) 8 os))
              (found_then (omega (arith, g.ordered.behind, g.behind)) f.so_far d);
          long = lf ∙ f.long;
        }
      where
        under : (t : ℕ) → leaf < t → t ≤ 131072 → leaf + 1 ≤ 262144
        under t a b = omega arith

  -- all leaves are done
  pub searching_all : {total entries leaf height : ℕ} {E : List ℕ} → Searching ps sag s v order count highest e at ts found placed W total entries leaf height E → count ≤ 8 * leaf
      → FoundIn ps sag s v e at ts found placed os W E total entries
  searching_all {total} {entries} {leaf} {height} {E} f n =
      subst (λ (xs : List ℕ). FoundIn ps sag s v e at ts found placed xs W E total entries) (take_all (8 * leaf) os (omega (arith, os_long))) f.so_far
