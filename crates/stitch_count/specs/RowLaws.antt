-- Laws of the triangles of one row: their views, and what stands in front of the entries is kept. Assumes nothing.
use Rattle.std.specs.Prelude.{◌≡◌, refl, List, [], ◌∷◌, ℕ, suc, ◌+◌, ◌-◌, ◌*◌, ◌%◌, ◌<◌, ◌≤◌, length, get_or, take, drop, Float}
use Rattle.std.proofs.Common.{sym, ap, ◌∙◌, subst, arith, length-drop, length-take-le}
use Rattle.lists.specs.Stretches.{stretch_three, stretch_kept, front_at, front_less, rest_at, stretch_three_at}
use Rattle.slice_pairs.specs.Rearranged.{Rearranged}
use Rattle.body_rows.specs.Body.{triangles_of}
use Rattle.stitch_loose_points.specs.Listed.{CornerAt, listed_kept}
use Rattle.stitch_splits.specs.Entries.{entries_of, entries_in}
use Rattle.stitch_pairs.specs.FoundPairs.{ranked_from}
use Rattle.stitch_tree.specs.Kept.{boxed_kept}
use Rattle.stitch_count.specs.Views.{View, sides_at, row_views}
use Rattle.stitch_count.specs.Counting.{sides_in, Stands, TriangleReady, view_in, views_in, RowReady}

-- as many entries as words
entries_many : (xs ys : List ℕ) → length xs ≡ length ys → length (entries_of xs ys) ≡ length xs
unfolding entries_of
entries_many [] ys e = refl
entries_many (x ∷ xs) [] e = absurd (omega arith)
entries_many (x ∷ xs) (y ∷ ys) e = ap suc (entries_many xs ys (omega arith))

pub entries_long : (W : List ℕ) (at ts kept : ℕ) → at + kept ≤ length W → ts + kept ≤ length W → length (entries_in W at ts kept) ≡ kept
entries_long W at ts kept a b =
    let x : length (take kept (drop at W)) ≡ kept = length-take-le kept (drop at W) (omega (arith, length-drop at W)) in
    let y : length (take kept (drop ts W)) ≡ kept = length-take-le kept (drop ts W) (omega (arith, length-drop ts W)) in
    entries_many (take kept (drop at W)) (take kept (drop ts W)) (x ∙ sym y) ∙ x

-- what stands in front of the flags and behind the entries is kept
pub stands_flags : {ps : List Float} {sag beyond : Float} {n v list count at ts flags order boxes top : ℕ} {W E : List ℕ}
    → Stands ps sag beyond n v list count at ts flags order boxes top W → take flags E ≡ take flags W → drop (ts + 3 * count) E ≡ drop (ts + 3 * count) W → length E ≡ length W
    → Stands ps sag beyond n v list count at ts flags order boxes top E
stands_flags {ps} {sag} {beyond} {n} {v} {list} {count} {at} {ts} {flags} {order} {boxes} {top} {W} {E} s e r l =
    let listed : take count (drop list E) ≡ take count (drop list W) = stretch_kept list count flags W E e s.flags_behind in
    let ordered : take count (drop order E) ≡ take count (drop order W) = stretch_kept order count flags W E e s.order_behind in
    let word : (j : ℕ) → j < count → get_or E (order + j) 0 ≡ get_or W (order + j) 0 = λ j h. front_at flags (order + j) W E 0 e (omega (arith, s.order_behind)) in
    let box : (k : ℕ) → boxes ≤ k → get_or E k 0 ≡ get_or W k 0 = λ k h. rest_at (ts + 3 * count) k W E 0 r (omega (arith, s.room)) in
    record {
      listed = listed_kept {at = flags} s.listed s.flags_behind e l;
      few = s.few;
      all = s.all;
      points = s.points;
      flags_behind = s.flags_behind;
      order_names = s.order_names;
      order_behind = s.order_behind;
      behind = s.behind;
      apart = s.apart;
      room = s.room;
      long = omega (arith, s.long);
      boxes_room = λ some. omega (arith, s.boxes_room some);
      small = s.small;
      ranked = subst (λ (x : List ℕ). Rearranged x (ranked_from 0 (take count (drop list E)))) (sym ordered)
          (subst (λ (x : List ℕ). Rearranged (take count (drop order W)) (ranked_from 0 x)) (sym listed) s.ranked);
      boxed = λ some. boxed_kept (s.boxed some) word box;
      low = s.low;
      far = s.far;
    }

-- so it is if the flags are kept as well
pub stands_kept : {ps : List Float} {sag beyond : Float} {n v list count at ts flags order boxes top : ℕ} {W E : List ℕ}
    → Stands ps sag beyond n v list count at ts flags order boxes top W → take at E ≡ take at W → drop (ts + 3 * count) E ≡ drop (ts + 3 * count) W → length E ≡ length W
    → Stands ps sag beyond n v list count at ts flags order boxes top E
stands_kept {at = at} {flags = flags} {W = W} {E = E} s e r l = stands_flags s (front_less flags at W E e (omega (arith, s.behind))) r l

-- the views of a row from index k on begin with its triangle's
pub views_three : (ps : List Float) (is : List ℕ) (sag : Float) (v list count flags base k to : ℕ) (W : List ℕ) → k + 3 ≤ to → flags + to ≤ length W → to ≤ length is
    → views_in ps is sag v list count flags base k to W ≡ view_in ps is sag v list count flags base k W ∷ views_in ps is sag v list count flags base (k + 3) to W
unfolding row_views triangles_of
views_three ps is sag v list count flags base k to W three room all =
    ap (λ (fs : List ℕ). row_views sag ps (take v W) (take count (drop list W)) base fs (triangles_of (take (to - k) (drop k is)))) (stretch_three_at W flags k to 0 three room)
    ∙ ap (λ (xs : List ℕ). row_views sag ps (take v W) (take count (drop list W)) base
    (get_or W (flags + k) 0 ∷ get_or W (flags + k + 1) 0 ∷ get_or W (flags + k + 2) 0 ∷ take (to - (k + 3)) (drop (flags + (k + 3)) W)) (triangles_of xs))
    (stretch_three is k to 0 three all)

-- at the row's end there are none
pub views_none : (ps : List Float) (is : List ℕ) (sag : Float) (v list count flags base k to : ℕ) (W : List ℕ) → to ≤ k → [] ≡ views_in ps is sag v list count flags base k to W
unfolding row_views triangles_of
views_none ps is sag v list count flags base k to W l =
    let z : 0 ≡ to - k = omega arith in
    ap (λ (m : ℕ). row_views sag ps (take v W) (take count (drop list W)) base (take m (drop (flags + k) W)) (triangles_of (take m (drop k is)))) z

-- index k of a row is reached, and W became E, in which only entries were written
pub record Reached (count at ts from to : ℕ) (W : List ℕ) (k : ℕ) (E : List ℕ) : Type 0 where
  pub aligned : (to - k) % 3 ≡ 0
  pub low : from ≤ k
  pub high : k ≤ to
  pub front : take at E ≡ take at W
  pub rest : drop (ts + 3 * count) E ≡ drop (ts + 3 * count) W
  pub long : length E ≡ length W

module _ {ps : List Float} {is : List ℕ} {sag beyond : Float} {n v list count at ts flags order boxes top base vertices from to found kept : ℕ} {W : List ℕ}
    (g : RowReady ps is sag beyond n v list count at ts flags order boxes top base vertices from to found kept W) where
  module _ {k : ℕ} {E : List ℕ} (c : Reached count at ts from to W k E) (l : k < to) where
    pub three : k + 3 ≤ to
    three = omega (arith, c.aligned)

    corner_at : (j : ℕ) → j < 3 → CornerAt is base v (k + j)
    corner_at j h = record { inside = omega (arith, three, g.inside, g.all); low = omega (arith, g.below (k + j) (omega (arith, c.low)) (omega (arith, three)), g.vertices_low) }

    -- the triangle can be split
    pub triangle_ready : TriangleReady ps is sag beyond n v list count at ts flags order boxes top base k E
    triangle_ready =
        record {
          stands = stands_kept g.stands c.front c.rest c.long;
          inside = omega (arith, three, g.inside);
          in_a = record { inside = omega (arith, g.inside, g.all); low = omega (arith, g.below k c.low l, g.vertices_low) };
          in_b = corner_at 1 (omega arith);
          in_c = corner_at 2 (omega arith);
        }

    -- the view of the triangle at k
    abbrev pub view : View
    view = view_in ps is sag v list count flags base k W

    -- the views begin with it
    pub views_here : views_in ps is sag v list count flags base k to W ≡ view ∷ views_in ps is sag v list count flags base (k + 3) to W
    views_here =
        views_three ps is sag v list count flags base k to W three (omega (arith, g.inside, g.stands.behind, g.stands.apart, g.stands.long)) (omega (arith, g.inside, g.all))

    -- what stands in E is what stands in W
    pub names_are : take v E ≡ take v W
    names_are = front_less v at W E c.front (omega (arith, g.stands.listed.behind, g.stands.flags_behind, g.stands.behind))

    pub list_is : take count (drop list E) ≡ take count (drop list W)
    list_is = stretch_kept list count at W E c.front (omega (arith, g.stands.flags_behind, g.stands.behind))

    pub sides_are : sides_in ps is v flags base k E ≡ sides_in ps is v flags base k W
    sides_are =
        let f0 : get_or E (flags + k) 0 ≡ get_or W (flags + k) 0 = front_at at (flags + k) W E 0 c.front (omega (arith, g.inside, g.stands.behind)) in
        let f1 : get_or E (flags + k + 1) 0 ≡ get_or W (flags + k + 1) 0 = front_at at (flags + k + 1) W E 0 c.front (omega (arith, three, g.inside, g.stands.behind)) in
        let f2 : get_or E (flags + k + 2) 0 ≡ get_or W (flags + k + 2) 0 = front_at at (flags + k + 2) W E 0 c.front (omega (arith, three, g.inside, g.stands.behind)) in
        λ i. sides_at ps (names_are i) (base + get_or is k 0) (base + get_or is (k + 1) 0) (base + get_or is (k + 2) 0) (f0 i) (f1 i) (f2 i)
