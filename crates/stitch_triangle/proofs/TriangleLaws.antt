-- Laws of a triangle's splits: the three edges in turn, and the entries kept of the pairs in order. Assumes nothing.
use mathlib.Core.Path.{◌≡◌, refl, sym, ap, ◌∙◌, subst}
use mathlib.Core.Bool.{true}
use mathlib.Core.List.{List, [], ◌∷◌, ◌++◌, map}
use Prim.Native.Nat.{ℕ, zero, suc, ◌+◌, ◌*◌, ◌/◌, ◌%◌, ◌^◌, ◌<◌, ◌≤◌}
use native.Mathlib.Omega.{arith}
use lib.Dec.{ltb}
use lib.ListN.{length, get_or, take, drop, length-drop}
use lib.Seq.{length-take-le}
use lib.Ieee.{Float}
use borrow.Author.Tests.{lt-ltb, ltb-true}
use Rattle.lists.specs.Lists.{count_if}
use Rattle.lists.specs.Stretches.{stretch_at, stretch_kept, front_at, front_less, rest_less, rest_at}
use Rattle.patch_geometry.specs.Geometry.{point_at}
use Rattle.slice_pairs.specs.Rearranged.{Rearranged, same_self, same_then, same_append, same_each, same_length}
use Rattle.slice_pairs.specs.Pairs.{pairs_of, pairs_in, PairsHeld}
use Rattle.stitch_tree.specs.Trees.{Boxed}
use Rattle.stitch_tree.specs.Kept.{boxed_kept}
use Rattle.stitch_splits.specs.declared.sides.Sides.{Sides}
use Rattle.stitch_splits.specs.Entries.{entries_in, kept_entries}
use Rattle.stitch_splits.specs.Found.{side_of, found_count, triangle_found, triangle_kept}
use Rattle.stitch_pairs.specs.FoundPairs.{ranked_from, found_pairs, entry_of_pair}
use Rattle.stitch_pairs.specs.Inserted.{insert_numbers, inserted_rises, inserted_same}
use Rattle.stitch_pairs.specs.Words.{KeptInOrder}
use Rattle.stitch_pairs.proofs.SortedEntries.{sorted_entries}
use Rattle.stitch_pairs.specs.RankedLaws.{found_same, pairs_same}
use Rattle.stitch_triangle.specs.Triangle.{is_found, Ordered, FoundIn, FindOn, Splittable, Split}
use Rattle.stitch_triangle.proofs.SearchLaws.{ordered_kept}

-- ---- words of the list by name

ranked_length : (k : ℕ) (gs : List ℕ) → length (ranked_from k gs) ≡ length gs
unfolding ranked_from
ranked_length k [] = refl
ranked_length k (g ∷ gs) = ap suc (ranked_length (suc k) gs)

ranked_at_lem : (k : ℕ) (gs : List ℕ) (j : ℕ) → j < length gs → get_or (ranked_from k gs) j 0 ≡ 262144 * (k + j) + get_or gs j 0
unfolding ranked_from
ranked_at_lem k [] j b = absurd (omega arith)
ranked_at_lem k (g ∷ gs) zero b = omega arith
ranked_at_lem k (g ∷ gs) (suc j) b = ranked_at_lem (suc k) gs j (omega arith) ∙ (let z : 262144 * (suc k + j) + get_or gs j 0 ≡ 262144 * (k + suc j) + get_or gs j 0 = omega arith in z)

-- ---- the tree is kept

-- with what lies in front of the pairs and behind them
pub tree_kept : {ps : List Float} {order count boxes top : ℕ} (at b : ℕ) {W E : List ℕ} → Boxed ps order count boxes top W → order + count ≤ at → take at E ≡ take at W
    → b ≤ boxes → drop b E ≡ drop b W → Boxed ps order count boxes top E
tree_kept {ps} {order} {count} {boxes} {top} at b {W} {E} t l front h rest =
    boxed_kept t (λ j p. front_at at (order + j) W E 0 front (omega arith)) (λ k m. rest_at b k W E 0 rest (omega arith))

-- ---- the three edges

-- no pair stands in no words
none_there : (W : List ℕ) (at ts : ℕ) → pairs_in W at ts 0 ≡ []
unfolding pairs_of
none_there W at ts = refl

module _ {ps : List Float} {sag beyond : Float} {s : Sides} {v list count at ts order boxes top : ℕ} {W : List ℕ}
    (g : Splittable ps sag beyond s v list count at ts order boxes top W) where
  abbrev gs : List ℕ
  gs = take count (drop list W)

  abbrev os : List ℕ
  os = take count (drop order W)

  gs_long : length gs ≡ count
  gs_long = length-take-le count (drop list W) (omega (arith, length-drop list W, g.listed.room))

  os_long : length os ≡ count
  os_long = length-take-le count (drop order W) (omega (arith, length-drop order W, g.behind, g.apart, g.long))

  gs_low : (j : ℕ) → j < length gs → get_or gs j 0 < v
  gs_low j b = subst (λ (x : ℕ). x < v) (sym (stretch_at list count W j 0 (omega (arith, gs_long)))) (g.listed.below j (omega (arith, gs_long)))

  gs_small : (j : ℕ) → j < length gs → get_or gs j 0 < 262144
  gs_small j b = omega (arith, gs_low j b, g.few)

  -- the words in order are of the list's vertices
  word_low : (j : ℕ) → j < length (ranked_from 0 gs) → ltb (get_or (ranked_from 0 gs) j 0 % 262144) v ≡ true
  word_low j b =
      let c : j < length gs = omega (arith, ranked_length 0 gs) in
      lt-ltb (get_or (ranked_from 0 gs) j 0 % 262144) v (omega (arith, ranked_at_lem 0 gs j c, gs_low j c, g.few))

  word_small : (j : ℕ) → j < length (ranked_from 0 gs) → ltb (get_or (ranked_from 0 gs) j 0) 274877906944 ≡ true
  word_small j b =
      let c : j < length gs = omega (arith, ranked_length 0 gs) in
      lt-ltb (get_or (ranked_from 0 gs) j 0) 274877906944 (omega (arith, ranked_at_lem 0 gs j c, gs_small j c, gs_long, g.small))

  ordered : Ordered ps v order count W
  ordered =
      record {
        few = g.few;
        all = g.all;
        behind = g.order_names;
        room = omega (arith, g.behind, g.apart, g.long);
        below = λ j b. subst (λ (o : ℕ). o % 262144 < v) (stretch_at order count W j 0 b)
            (ltb-true (get_or os j 0 % 262144) v (same_each (λ o. ltb (o % 262144) v) 0 g.ranked word_low j (omega (arith, os_long))));
        small = λ j b. subst (λ (o : ℕ). o < 274877906944) (stretch_at order count W j 0 b)
            (ltb-true (get_or os j 0) 274877906944 (same_each (λ o. ltb o 274877906944) 0 g.ranked word_small j (omega (arith, os_long))));
      }

  -- the first can be looked at
  pub first_ready : FindOn ps sag beyond s v order count boxes top 0 at ts 0 0 W
  unfolding side_of
  first_ready =
      record {
        ordered = ordered;
        points = g.points;
        boxed = g.boxed;
        low = g.low;
        behind = g.behind;
        apart = omega (arith, g.apart);
        room = omega (arith, g.room);
        long = omega (arith, g.long);
        boxes_room = g.boxes_room;
        edge = omega arith;
        pointed = g.first;
        countable = omega (arith, g.small);
        far = g.far;
      }

  module _ {f₁ p₁ : ℕ} {X : List ℕ} (a : FoundIn ps sag s v 0 at ts 0 0 os W X f₁ p₁) (ex : length X ≡ length W) where
    -- the second
    pub second_ready : FindOn ps sag beyond s v order count boxes top 1 at ts f₁ p₁ X
    unfolding side_of
    second_ready =
        record {
          ordered = ordered_kept ordered g.behind a.front ex;
          points = g.points;
          boxed = λ z. tree_kept at (ts + 0 + length os) (g.boxed z) g.behind a.front (omega (arith, g.room, os_long)) a.rest;
          low = g.low;
          behind = g.behind;
          apart = omega (arith, g.apart, a.few, os_long);
          room = omega (arith, g.room, a.few, os_long);
          long = omega (arith, g.long, a.few, os_long);
          boxes_room = λ z. subst (λ (n : ℕ). boxes + 12 * 2 ^ top ≤ n) (sym ex) (g.boxes_room z);
          edge = omega arith;
          pointed = g.second;
          countable = omega (arith, g.small, a.bound, os_long);
          far = g.far;
        }

    os_x : take count (drop order X) ≡ os
    os_x = stretch_kept order count at W X a.front g.behind

    module _ {f₂ p₂ : ℕ} {Y : List ℕ} (b : FoundIn ps sag s v 1 at ts f₁ p₁ (take count (drop order X)) X Y f₂ p₂) (ey : length Y ≡ length X) where
      x_long : length (take count (drop order X)) ≡ count
      x_long = ap length os_x ∙ os_long

      -- the third
      pub third_ready : FindOn ps sag beyond s v order count boxes top 2 at ts f₂ p₂ Y
      unfolding side_of
      third_ready =
          record {
            ordered = ordered_kept second_ready.ordered g.behind b.front ey;
            points = g.points;
            boxed = λ z. tree_kept at (ts + p₁ + length (take count (drop order X))) (second_ready.boxed z) g.behind b.front (omega (arith, g.room, a.few, os_long, x_long)) b.rest;
            low = g.low;
            behind = g.behind;
            apart = omega (arith, g.apart, a.few, b.few, os_long, x_long);
            room = omega (arith, g.room, a.few, b.few, os_long, x_long);
            long = omega (arith, g.long, a.few, b.few, os_long, x_long);
            boxes_room = λ z. subst (λ (n : ℕ). boxes + 12 * 2 ^ top ≤ n) (sym ey) (second_ready.boxes_room z);
            edge = omega arith;
            pointed = g.third;
            countable = omega (arith, g.small, a.bound, b.bound, os_long, x_long);
            far = g.far;
          }

      os_y : take count (drop order Y) ≡ os
      os_y = stretch_kept order count at X Y b.front g.behind ∙ os_x

      module _ {f₃ p₃ : ℕ} {Z : List ℕ} (c : FoundIn ps sag s v 2 at ts f₂ p₂ (take count (drop order Y)) Y Z f₃ p₃) (ez : length Z ≡ length Y) where
        y_long : length (take count (drop order Y)) ≡ count
        y_long = ap length os_y ∙ os_long

        -- the pairs can be kept in order
        pub pairs_held : PairsHeld at ts p₃ Z
        pairs_held =
            record {
              apart = omega (arith, g.apart, a.few, b.few, c.few, os_long, x_long, y_long);
              room = omega (arith, g.long, a.few, b.few, c.few, os_long, x_long, y_long);
            }

        abbrev ns : List ℕ
        ns = take v W

        names_x : take v X ≡ ns
        names_x = front_less v at W X a.front (omega (arith, g.order_names, g.behind))

        names_y : take v Y ≡ ns
        names_y = front_less v at X Y b.front (omega (arith, g.order_names, g.behind)) ∙ names_x

        -- all pairs that were found
        pairs_are : pairs_in Z at ts p₃ ≡ found_pairs sag ps ns s 0 os ++ found_pairs sag ps ns s 1 os ++ found_pairs sag ps ns s 2 os
        pairs_are =
            c.pairs
            ∙ (λ i. b.pairs i ++ found_pairs sag ps (names_y i) s 2 (os_y i))
            ∙ (λ i. a.pairs i ++ found_pairs sag ps (names_x i) s 1 (os_x i) ++ found_pairs sag ps ns s 2 os)
            ∙ (λ i. none_there W at ts i ++ found_pairs sag ps ns s 0 os ++ found_pairs sag ps ns s 1 os ++ found_pairs sag ps ns s 2 os)

        -- are those of the list by name
        ranked : Rearranged (insert_numbers [] (pairs_in Z at ts p₃))
            (found_pairs sag ps ns s 0 (ranked_from 0 gs) ++ found_pairs sag ps ns s 1 (ranked_from 0 gs) ++ found_pairs sag ps ns s 2 (ranked_from 0 gs))
        ranked =
            same_then (inserted_same (pairs_in Z at ts p₃))
            (subst
            (λ (xs : List ℕ). Rearranged xs (found_pairs sag ps ns s 0 (ranked_from 0 gs) ++ found_pairs sag ps ns s 1 (ranked_from 0 gs) ++ found_pairs sag ps ns s 2 (ranked_from 0 gs)))
            (sym pairs_are)
            (same_append
            (same_append (pairs_same sag ps ns s 0 os gs g.ranked) (pairs_same sag ps ns s 1 os gs g.ranked))
            (pairs_same sag ps ns s 2 os gs g.ranked)))

        -- the triangle is split
        pub triangle_split : {k : ℕ} {E : List ℕ} → KeptInOrder at ts p₃ Z E k → Split ps sag s v list count at ts W E f₃ k
        unfolding triangle_found triangle_kept
        triangle_split {k} {E} d =
            record {
              found_is =
                  c.more
                  ∙ (λ i. b.more i + count_if (is_found sag ps (names_y i) s 2) (os_y i))
                  ∙ (λ i. a.more i + count_if (is_found sag ps (names_x i) s 1) (os_x i) + count_if (is_found sag ps ns s 2) os)
                  ∙ (λ i. 0 + found_same sag ps ns s 0 os gs g.ranked gs_small i + found_same sag ps ns s 1 os gs g.ranked gs_small i
                  + found_same sag ps ns s 2 os gs g.ranked gs_small i)
                  ∙ first_sum (found_count sag ps ns s 0 gs) (found_count sag ps ns s 1 gs) (found_count sag ps ns s 2 gs);
              kept_are =
                  d.entries
                  ∙ ap kept_entries (sorted_entries sag ps ns s gs (omega (arith, gs_long, g.small)) gs_small (insert_numbers [] (pairs_in Z at ts p₃))
                  (inserted_rises (pairs_in Z at ts p₃)) ranked);
              few_found = omega (arith, a.bound, b.bound, c.bound, os_long, x_long, y_long);
              few = omega (arith, d.few, a.few, b.few, c.few, os_long, x_long, y_long);
              front = d.front ∙ c.front ∙ b.front ∙ a.front;
              rest =
                  rest_less (ts + p₃) (ts + 3 * count) Z E d.rest (omega (arith, a.few, b.few, c.few, os_long, x_long, y_long))
                  ∙ rest_less (ts + p₂ + length (take count (drop order Y))) (ts + 3 * count) Y Z c.rest (omega (arith, a.few, b.few, os_long, x_long, y_long))
                  ∙ rest_less (ts + p₁ + length (take count (drop order X))) (ts + 3 * count) X Y b.rest (omega (arith, a.few, os_long, x_long))
                  ∙ rest_less (ts + 0 + length os) (ts + 3 * count) W X a.rest (omega (arith, os_long));
            }
          where
            first_sum : (x y z : ℕ) → 0 + x + y + z ≡ x + y + z
            first_sum x y z = omega arith
