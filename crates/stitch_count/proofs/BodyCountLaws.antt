-- Laws of counting the splits of all rows. Assumes nothing.
use mathlib.Core.Path.{◌≡◌, refl, sym, ap, ◌∙◌, subst}
use mathlib.Core.List.{List, [], ◌∷◌}
use Prim.Native.Nat.{ℕ, ◌+◌, ◌-◌, ◌*◌, ◌%◌, ◌<◌, ◌≤◌}
use native.Mathlib.Decide.{dec_lt}
use native.Mathlib.Omega.{arith}
use lib.ListN.{length, get_or, take, drop, drop_of_length-le}
use lib.Ieee.{Float}
use Rattle.lists.specs.Lists.{sum_of}
use Rattle.lists.specs.Stretches.{stretch_kept, front_less}
use Rattle.body_rows.specs.Body.{Row, rows_of, triangles_of}
use Rattle.body_rows.specs.Rows.{row_at, vertices_before, indices_before}
use Rattle.body_rows.specs.Patches.{before_none, indices_front, indices_next, vertices_next}
use Rattle.stitch_count.specs.Views.{row_views, body_views, found_in, kept_in}
use Rattle.stitch_count.specs.Counting.{Stands, views_in, RowReady, RowCounted, BodyReady, views_of, BodyCounted}
use Rattle.stitch_count.specs.RowLaws.{stands_flags}
use Rattle.stitch_count.specs.RowByRow.{views_from, vertices_within, indices_within, views_here}
use Rattle.stitch_count.proofs.BodyViewLaws.{stretch_same, row_earlier, body_same}
use Rattle.edge_uses.specs.RowUses.{row_inside}

-- the rows before row k are counted: W became E
pub record CountingRows (table : List ℕ) (ps : List Float) (is : List ℕ) (sag : Float) (v list count at ts flags : ℕ) (W : List ℕ) (total new base i k : ℕ) (E : List ℕ) : Type 0 where
  pub low : k ≤ length (rows_of table)
  pub at_v : base ≡ vertices_before (rows_of table) k
  pub at_i : i ≡ indices_before (rows_of table) k
  pub views : views_of table ps is sag v list count flags E ≡ views_of table ps is sag v list count flags W
  pub exact : v + new ≤ 262144 → length is + 3 * new ≤ 786432
      → new + sum_of kept_in (views_from ps is sag v list count flags base i (drop k (rows_of table)) W) ≡ sum_of kept_in (views_of table ps is sag v list count flags W)
  pub found_is : v + new ≤ 262144 → length is + 3 * new ≤ 786432
      → total + sum_of found_in (views_from ps is sag v list count flags base i (drop k (rows_of table)) W) ≡ sum_of found_in (views_of table ps is sag v list count flags W)
  pub most : new + sum_of kept_in (views_from ps is sag v list count flags base i (drop k (rows_of table)) W) ≤ sum_of kept_in (views_of table ps is sag v list count flags W)
  pub found_low : total ≤ 2359296 * i
  pub kept_low : new ≤ 2359296 * i
  pub front : take flags E ≡ take flags W
  pub behind : (j : ℕ) → i ≤ j → flags + j < at → get_or E (flags + j) 0 ≡ get_or W (flags + j) 0
  pub rest : drop (ts + 3 * count) E ≡ drop (ts + 3 * count) W
  pub long : length E ≡ length W

module _ {table : List ℕ} {ps : List Float} {is : List ℕ} {sag beyond : Float} {v list count at ts flags order boxes top : ℕ} {W : List ℕ}
    (g : BodyReady table ps is sag beyond v list count at ts flags order boxes top W) where
  -- none is counted yet
  pub rows_none : CountingRows table ps is sag v list count at ts flags W 0 0 0 0 0 W
  rows_none =
      record {
        low = omega arith;
        at_v = sym (before_none (rows_of table)).0;
        at_i = sym (before_none (rows_of table)).1;
        views = refl;
        exact = λ a b. omega arith;
        found_is = λ a b. omega arith;
        most = omega arith;
        found_low = omega arith;
        kept_low = omega arith;
        front = refl;
        behind = λ j a b. refl;
        rest = refl;
        long = refl;
      }

  -- all stands where it stood
  stands_now : {total new base i k : ℕ} {E : List ℕ} → CountingRows table ps is sag v list count at ts flags W total new base i k E
      → Stands ps sag beyond (length is) v list count at ts flags order boxes top E
  stands_now c = stands_flags g.stands c.front c.rest c.long

  -- the body in an area in which all stands
  ready_in : {E : List ℕ} → Stands ps sag beyond (length is) v list count at ts flags order boxes top E → BodyReady table ps is sag beyond v list count at ts flags order boxes top E
  ready_in s = record { stands = s; rows = g.rows; vertices = g.vertices; all = g.all; few = g.few; threes = g.threes; inside = g.inside }

  -- a row's views by what they look at
  views_by : (X Y : List ℕ) (base i end : ℕ) → take flags Y ≡ take flags X → take (end - i) (drop (flags + i) Y) ≡ take (end - i) (drop (flags + i) X)
      → views_in ps is sag v list count flags base i end Y ≡ views_in ps is sag v list count flags base i end X
  views_by X Y base i end e f =
      let names : take v Y ≡ take v X = front_less v flags X Y e (omega (arith, g.stands.listed.behind, g.stands.flags_behind)) in
      let listed : take count (drop list Y) ≡ take count (drop list X) = stretch_kept list count flags X Y e g.stands.flags_behind in
      λ j. row_views sag ps (names j) (listed j) base (f j) (triangles_of (take (end - i) (drop i is)))

  -- a row's flags stand in front of the entries, which stand in the area
  flags_room : flags + length is ≤ at
  flags_room = g.stands.behind

  at_room : at ≤ length W
  at_room = omega (arith, g.stands.apart, g.stands.long)

  module _ {total new base i k m n : ℕ} {E : List ℕ} (c : CountingRows table ps is sag v list count at ts flags W total new base i k E) (em : m ≡ length (rows_of table)) (en : n ≡ length is)
      (l : k < m) {vertices end : ℕ}
      (ev : vertices ≡ (row_at table k).vertices) (ee : end ≡ i + (row_at table k).indices) where
    more : k < length (rows_of table)
    more = omega arith

    pub end_low : end ≤ length is
    end_low = indices_within g k more ev c.at_i ee

    pub base_low : base + vertices ≤ v
    base_low = vertices_within g k more ev c.at_v

    -- the row can be counted
    pub row_ready : RowReady ps is sag beyond n v list count at ts flags order boxes top base vertices i end total new E
    unfolding row_at
    row_ready =
        record {
          stands = subst (λ (x : ℕ). Stands ps sag beyond x v list count at ts flags order boxes top E) (sym en) (stands_now c);
          ordered = omega arith;
          whole = ap (λ (x : ℕ). x % 3) size ∙ g.threes k more;
          inside = omega (arith, end_low);
          all = en;
          few = omega (arith, g.all, g.few);
          below = row_inside table is k (λ j h. g.inside k j more h) c.at_i ee ev;
          vertices_low = base_low;
          found_low = c.found_low;
          kept_low = c.kept_low;
        }
      where
        size : end - i ≡ (row_at table k).indices
        size = omega arith

    -- the row's views are those of the area as it was
    row_was : views_in ps is sag v list count flags base i end E ≡ views_in ps is sag v list count flags base i end W
    row_was =
        views_by W E base i end c.front
        (stretch_same (flags + i) (end - i) W E (omega (arith, end_low, flags_room, at_room)) c.long word)
      where
        word : (j : ℕ) → j < end - i → get_or E (flags + i + j) 0 ≡ get_or W (flags + i + j) 0
        word j h =
            let e : flags + (i + j) ≡ flags + i + j = omega arith in
            ap (λ (x : ℕ). get_or E x 0) (sym e) ∙ c.behind (i + j) (omega arith) (omega (arith, end_low, flags_room)) ∙ ap (λ (x : ℕ). get_or W x 0) e

    -- the views from row k on begin with the row's
    views_first : views_from ps is sag v list count flags base i (drop k (rows_of table)) W
        ≡ views_in ps is sag v list count flags base i end W ∷ views_from ps is sag v list count flags (base + vertices) end (drop (k + 1) (rows_of table)) W
    views_first = views_here g k more ev c.at_i ee base W refl

    module _ {x y : ℕ} {F : List ℕ} (d : RowCounted ps is sag v list count at ts flags base i end total new E F x y) (lf : length F ≡ length E) where
      flags_front : take flags F ≡ take flags E
      flags_front = front_less flags (flags + i) E F d.front (omega arith)

      -- the views of any row are the same
      row_kept : (h base' i' end' : ℕ) → h < length (rows_of table) → base' ≡ vertices_before (rows_of table) h → i' ≡ indices_before (rows_of table) h → end' ≡ i' + (row_at table h).indices
          → views_in ps is sag v list count flags base' i' end' F ≡ views_in ps is sag v list count flags base' i' end' E
      row_kept h base' i' end' l eb ei ed = go (dec_lt h k) (dec_lt k h)
        where
          inside : end' ≤ length is
          inside = indices_within g h l refl ei ed

          go : Dec (h < k) → Dec (k < h) → views_in ps is sag v list count flags base' i' end' F ≡ views_in ps is sag v list count flags base' i' end' E
          go (yes a) q =
              let earlier : end' ≤ i = omega (arith, row_earlier table h k a c.low, c.at_i) in
              views_by E F base' i' end' flags_front (stretch_kept (flags + i') (end' - i') (flags + i) E F d.front (omega arith))
          go (no a) (yes b) =
              let later : end ≤ i' = omega (arith, row_earlier table k h b (omega arith), c.at_i, ee) in
              views_by E F base' i' end' flags_front
              (stretch_same (flags + i') (end' - i') E F (omega (arith, inside, flags_room, at_room, c.long)) lf
              (λ j s.
              let e : flags + (i' + j) ≡ flags + i' + j = omega arith in
              ap (λ (z : ℕ). get_or F z 0) (sym e) ∙ d.behind (i' + j) (omega arith) (omega (arith, inside, flags_room)) ∙ ap (λ (z : ℕ). get_or E z 0) e))
          go (no a) (no b) =
              let same : h ≡ k = omega arith in
              let base_is : base' ≡ base = eb ∙ ap (vertices_before (rows_of table)) same ∙ sym c.at_v in
              let i_is : i' ≡ i = ei ∙ ap (indices_before (rows_of table)) same ∙ sym c.at_i in
              let end_is : end' ≡ end = omega (arith, ed, i_is, ap (λ (z : ℕ). (row_at table z).indices) same, ee) in
              (λ j. views_in ps is sag v list count flags (base_is j) (i_is j) (end_is j) F)
              ∙ d.views
              ∙ sym (λ j. views_in ps is sag v list count flags (base_is j) (i_is j) (end_is j) E)

      body_kept : views_of table ps is sag v list count flags F ≡ views_of table ps is sag v list count flags E
      body_kept =
          body_same (ready_in (stands_now c)) (ready_in (stands_flags g.stands (flags_front ∙ c.front) (d.rest ∙ c.rest) (lf ∙ c.long))) row_kept (length (rows_of table)) 0 0 0
          (omega arith) (sym (before_none (rows_of table)).0) (sym (before_none (rows_of table)).1)

      -- one row more is counted
      pub rows_more : CountingRows table ps is sag v list count at ts flags W x y (base + vertices) end (k + 1) F
      unfolding row_at sum_of
      rows_more =
          let kept_row = ap kept_in row_was in
          let found-row = ap found_in row_was in
          let kept_all = ap (sum_of kept_in) views_first in
          let found_All = ap (sum_of found_in) views_first in
          record {
            low = omega arith;
            at_v = omega (arith, c.at_v, ev, vertices_next table k more);
            at_i = omega (arith, c.at_i, ee, indices_next table k more);
            views = body_kept ∙ c.views;
            exact = λ a b. omega (arith, d.exact a b, c.exact (omega (arith, d.rising)) (omega (arith, d.rising)), kept_row, kept_all);
            found_is = λ a b. omega (arith, d.found_is a b, c.found_is (omega (arith, d.rising)) (omega (arith, d.rising)), found-row, found_All);
            most = omega (arith, d.most, c.most, kept_row, kept_all);
            found_low = d.found_low;
            kept_low = d.kept_low;
            front = flags_front ∙ c.front;
            behind = λ j a b. d.behind j a b ∙ c.behind j (omega arith) b;
            rest = d.rest ∙ c.rest;
            long = lf ∙ c.long;
          }

  -- all are
  pub rows_all : {total new base i k m : ℕ} {E : List ℕ} → CountingRows table ps is sag v list count at ts flags W total new base i k E → m ≡ length (rows_of table) → m ≤ k
      → BodyCounted table ps is sag v list count at ts flags W E total new
  unfolding body_views sum_of
  rows_all {total} {new} {base} {i} {k} {m} {E} c em l =
      let none : views_from ps is sag v list count flags base i (drop k (rows_of table)) W ≡ [] =
      ap (λ (rows : List Row). views_from ps is sag v list count flags base i rows W) (drop_of_length-le (rows_of table) {i = k} (omega arith)) in
      record {
        views = c.views;
        exact = λ a b. omega (arith, c.exact a b, ap (sum_of kept_in) none);
        found_is = λ a b. omega (arith, c.found_is a b, ap (sum_of found_in) none);
        most = omega (arith, c.most);
        kept_low = omega (arith, c.kept_low, c.at_i, indices_front (rows_of table) k, g.few);
        front = c.front;
        rest = c.rest;
      }
