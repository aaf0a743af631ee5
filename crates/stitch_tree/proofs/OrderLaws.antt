-- Words swapped within a stretch, parted, halved and ordered: they are the same words, and what lies around them is as it was. Assumes nothing.
use mathlib.Core.Path.{◌≡◌, refl, sym, ap, ◌∙◌, subst}
use mathlib.Core.Bool.{true}
use mathlib.Core.List.{List}
use Prim.Native.Nat.{ℕ, ◌+◌, ◌-◌, ◌*◌, ◌/◌, ◌%◌, ◌<◌, ◌≤◌}
use native.Mathlib.Omega.{arith}
use lib.ListN.{length, get_or, take, drop, length-drop}
use lib.Seq.{length-take-le}
use lib.Dec.{ltb}
use lib.Ieee.{Float}
use borrow.Author.Tests.{lt-ltb, ltb-true}
use Rattle.std.specs.Prelude.{min, swap}
use Rattle.std.proofs.lemmas.List.Edits.{swap_is}
use Rattle.lists.specs.Stretches.{front_less, rest_less, stretch_at}
use Rattle.slice_pairs.specs.Rearranged.{Rearranged, same_self, same_then, same_each}
use Rattle.slice_pairs.specs.Swaps.{swapped, swapped_long, swap_same, swap_front, swap_rest}
use Rattle.stitch_tree.specs.Nodes.{CoordinateHeld, Pointed}
use Rattle.stitch_tree.proofs.PointLaws.{point_held}
use Rattle.stitch_tree.specs.Ordering.{Permuted, Stretch, PartReady, Parted, BlocksReady, OrderReady}

-- ---- swaps within a stretch

-- none
pub permuted_self : (from to : ℕ) (W : List ℕ) → Permuted from to W W
permuted_self from to W = record { same = λ at n a b l. same_self (take n (drop at W)); front = refl; rest = refl; long = refl }

-- one
pub permuted_swap : {from to : ℕ} (i j : ℕ) {W E : List ℕ} → from ≤ i → i < to → from ≤ j → j < to → to ≤ length W → E ≡ swapped W i j → Permuted from to W E
permuted_swap {from} {to} i j {W} {E} a b c d l e =
    let gap : from + (to - from) ≡ to = omega arith in
    record {
      same = λ at n p q r.
          subst (λ (X : List ℕ). Rearranged (take n (drop at X)) (take n (drop at W))) (sym e) (swap_same W at n i j (omega arith) (omega arith) (omega arith) (omega arith) r);
      front = ap (take from) e ∙ swap_front W from (to - from) i j a (omega arith) c (omega arith) (omega arith);
      rest =
          ap (drop to) e
          ∙ ap (λ (k : ℕ). drop k (swapped W i j)) (sym gap)
          ∙ swap_rest W from (to - from) i j a (omega arith) c (omega arith) (omega arith)
          ∙ ap (λ (k : ℕ). drop k W) gap;
      long = ap length e ∙ swapped_long W i j;
    }

-- some, and then some
pub permuted_then : {from to : ℕ} {W E F : List ℕ} → Permuted from to W E → Permuted from to E F → Permuted from to W F
permuted_then h k = record {
  same = λ at n a b l. same_then (k.same at n a b (omega (arith, h.long))) (h.same at n a b l);
  front = k.front ∙ h.front;
  rest = k.rest ∙ h.rest;
  long = k.long ∙ h.long;
}

-- those of a stretch within another
pub permuted_within : {from to a b : ℕ} {W E : List ℕ} → Permuted a b W E → from ≤ a → b ≤ to → Permuted from to W E
permuted_within {from} {to} {a} {b} {W} {E} h l m = record {
  same = λ at n p q r. h.same at n (omega arith) (omega arith) r;
  front = front_less from a W E h.front l;
  rest = rest_less b to W E h.rest m;
  long = h.long;
}

-- the words are of points as they were
pub pointed_permuted : {ps : List Float} {v from to : ℕ} {W E : List ℕ} → Pointed ps v from to W → from ≤ to → Permuted from to W E → Pointed ps v from to E
pointed_permuted {ps} {v} {from} {to} {W} {E} g o h = record {
  all = g.all;
  points = g.points;
  below = below;
  room = omega (arith, g.room, h.long);
}
  where
    long : (X : List ℕ) → length X ≡ length W → length (take (to - from) (drop from X)) ≡ to - from
    long X e = length-take-le (to - from) (drop from X) (omega (arith, length-drop from X, g.room))

    before : (j : ℕ) → j < length (take (to - from) (drop from W)) → ltb (get_or (take (to - from) (drop from W)) j 0 % 262144) v ≡ true
    before j l =
        let k : j < to - from = omega (arith, long W refl) in
        ap (λ (o : ℕ). ltb (o % 262144) v) (stretch_at from (to - from) W j 0 k) ∙ lt-ltb (get_or W (from + j) 0 % 262144) v (g.below (from + j) (omega arith) (omega arith))

    after : (j : ℕ) → j < length (take (to - from) (drop from E)) → ltb (get_or (take (to - from) (drop from E)) j 0 % 262144) v ≡ true
    after = same_each (λ o. ltb (o % 262144) v) 0 (h.same from (to - from) (omega arith) (omega arith) (omega (arith, g.room))) before

    below : (j : ℕ) → from ≤ j → j < to → get_or E j 0 % 262144 < v
    below j a b =
        let k : j - from < to - from = omega arith in
        let e : from + (j - from) ≡ j = omega arith in
        subst (λ (i : ℕ). get_or E i 0 % 262144 < v) e
        (subst (λ (o : ℕ). o % 262144 < v) (stretch_at from (to - from) E (j - from) 0 k)
        (ltb-true (get_or (take (to - from) (drop from E)) (j - from) 0 % 262144) v (after (j - from) (omega (arith, long E h.long)))))

-- so are those of a stretch within
pub pointed_within : {ps : List Float} {v from to : ℕ} (a b : ℕ) {W : List ℕ} → Pointed ps v from to W → from ≤ a → b ≤ to → Pointed ps v a b W
pointed_within a b g l m = record { all = g.all; points = g.points; below = λ j p q. g.below j (omega arith) (omega arith); room = omega (arith, g.room) }

-- ---- a coordinate

pub coordinate_held : {ps : List Float} {v from to axis j : ℕ} {W : List ℕ} → PartReady ps v from to axis W → from ≤ j → j < to → CoordinateHeld ps v j axis W
coordinate_held g l h = record { point = point_held g.stretch.words l h; flat = g.flat }

-- ---- parting

-- the words up to j are parted at `cut`
pub record Parting (from to : ℕ) (W : List ℕ) (cut j : ℕ) (E : List ℕ) : Type 0 where
  pub permuted : Permuted from to W E
  pub low : from ≤ cut
  pub high : cut ≤ j
  pub here : j ≤ to

module _ {ps : List Float} {v from to axis : ℕ} {W : List ℕ} (g : PartReady ps v from to axis W) where
  -- none is
  pub parting_none : Parting from to W from from W
  parting_none = record { permuted = permuted_self from to W; low = omega arith; high = omega arith; here = g.stretch.ordered }

  -- a stretch of them may be parted after swaps
  pub part_ready : (a b : ℕ) {E : List ℕ} → Permuted from to W E → from ≤ a → a ≤ b → b ≤ to → PartReady ps v a b axis E
  part_ready a b h l o m = record { stretch = record { words = pointed_within a b (pointed_permuted g.stretch.words g.stretch.ordered h) l m; ordered = o }; flat = g.flat }

  module _ {cut j : ℕ} {E : List ℕ} (c : Parting from to W cut j E) (l : j < to) where
    -- the next has a coordinate
    pub next_held : CoordinateHeld ps v j axis E
    next_held = coordinate_held (part_ready from to c.permuted (omega arith) g.stretch.ordered (omega arith)) (omega (arith, c.low, c.high)) l

    -- and is
    pub parting_more : (step : ℕ) {F : List ℕ} → step ≤ 1 → F ≡ swap E cut j → Parting from to W (cut + step) (j + 1) F
    parting_more step s e = record {
      permuted =
          permuted_then c.permuted
          (permuted_swap cut j c.low (omega (arith, c.high)) (omega (arith, c.low, c.high)) l (omega (arith, g.stretch.words.room, c.permuted.long))
          (e ∙ sym (swap_is E cut j 0 (omega (arith, c.high, g.stretch.words.room, c.permuted.long)) (omega (arith, g.stretch.words.room, c.permuted.long)))));
      low = omega (arith, c.low);
      high = omega (arith, c.high);
      here = omega arith;
    }

-- all are
pub parting_all : {from to cut j : ℕ} {W E : List ℕ} → Parting from to W cut j E → Parted from to W E cut
parting_all c = record { permuted = c.permuted; low = c.low; high = omega (arith, c.high, c.here) }

-- ---- parted again and again

-- the middle lies from a up to b
pub record Settling (from to : ℕ) (W : List ℕ) (a b : ℕ) (E : List ℕ) : Type 0 where
  pub permuted : Permuted from to W E
  pub low : from ≤ a
  pub ordered : a ≤ b
  pub high : b ≤ to

module _ {ps : List Float} {v from to axis : ℕ} {W : List ℕ} (g : PartReady ps v from to axis W) where
  -- nothing is known of it
  pub settling_none : Settling from to W from to W
  settling_none = record { permuted = permuted_self from to W; low = omega arith; ordered = g.stretch.ordered; high = omega arith }

  module _ {a b : ℕ} {E : List ℕ} (c : Settling from to W a b E) where
    -- the stretch may be parted
    pub settle_ready : PartReady ps v a b axis E
    settle_ready = part_ready g a b c.permuted c.low c.ordered c.high

    module _ {cut : ℕ} {F : List ℕ} (p : Parted a b E F cut) where
      -- the middle lies in the first part
      pub settling_front : Settling from to W a cut F
      settling_front = record {
        permuted = permuted_then c.permuted (permuted_within p.permuted c.low c.high);
        low = c.low;
        ordered = p.low;
        high = omega (arith, p.high, c.high);
      }

      -- or in the other
      pub settling_back : Settling from to W cut b F
      settling_back = record {
        permuted = permuted_then c.permuted (permuted_within p.permuted c.low c.high);
        low = omega (arith, p.low, c.low);
        ordered = p.high;
        high = c.high;
      }

-- ---- blocks

-- the blocks up to a are halved
pub record Halving (order n half : ℕ) (W : List ℕ) (a : ℕ) (E : List ℕ) : Type 0 where
  pub permuted : Permuted order (order + n) W E
  pub small : a ≤ n + half

module _ {ps : List Float} {v order n half : ℕ} {W : List ℕ} (g : BlocksReady ps v order n half W) where
  -- none is
  pub halving_none : Halving order n half W 0 W
  halving_none = record { permuted = permuted_self order (order + n) W; small = omega arith }

  module _ {a : ℕ} {E : List ℕ} (c : Halving order n half W a E) (l : a + half < n) where
    module _ {b : ℕ} (m : b ≡ min n (a + 2 * half)) where
      -- the next may be
      pub halve_ready : Stretch ps v (order + a) (order + b) E
      halve_ready = record {
        words = pointed_within (order + a) (order + b) (pointed_permuted g.words (omega arith) c.permuted) (omega arith) (omega (arith, m));
        ordered = omega (arith, g.some);
      }

      -- and is
      pub halving_more : {F : List ℕ} → Permuted (order + a) (order + b) E F → Halving order n half W (a + 2 * half) F
      halving_more p = record { permuted = permuted_then c.permuted (permuted_within p (omega arith) (omega (arith, m))); small = omega arith }

-- ---- all

-- blocks of more than twice `half` are halved
pub record Ordering (order n : ℕ) (W : List ℕ) (half : ℕ) (E : List ℕ) : Type 0 where
  pub permuted : Permuted order (order + n) W E
  pub small : half ≤ 524288

module _ {ps : List Float} {v order n leaves : ℕ} {W : List ℕ} (g : OrderReady ps v order n leaves W) where
  -- none is
  pub ordering_none : Ordering order n W (4 * leaves) W
  ordering_none = record { permuted = permuted_self order (order + n) W; small = omega (arith, g.small) }

  module _ {half : ℕ} {E : List ℕ} (c : Ordering order n W half E) where
    -- the next may be
    pub blocks_ready : 8 ≤ half → BlocksReady ps v order n half E
    blocks_ready l = record {
      words = pointed_permuted g.words (omega arith) c.permuted;
      few = g.few;
      some = omega arith;
      small = c.small;
    }

    -- and are
    pub ordering_more : {F : List ℕ} → Permuted order (order + n) E F → Ordering order n W (half / 2) F
    ordering_more p = record { permuted = permuted_then c.permuted p; small = omega (arith, c.small) }
