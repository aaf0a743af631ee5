-- Laws of writing all rows of the stitched body. Assumes nothing.
use mathlib.Core.Path.{◌≡◌, refl, sym, ap, ◌∙◌, subst}
use mathlib.Core.List.{List, [], ◌∷◌, ◌++◌, append_assoc, append-nil}
use Prim.Native.Nat.{ℕ, ◌+◌, ◌-◌, ◌*◌, ◌%◌, ◌<◌, ◌≤◌}
use native.Mathlib.Omega.{arith}
use lib.ListN.{length, take, drop, length-append, length-drop, drop_of_length-le}
use lib.Seq.{drop-drop, length-take-le}
use lib.Ieee.{Float}
use Rattle.lists.specs.Lists.{sum_of, written}
use Rattle.body_rows.specs.Body.{row_width, Row, rows_of, table_of}
use Rattle.body_rows.specs.Rows.{row_at, vertices_before, indices_before, rows_here, table_length}
use Rattle.body_rows.specs.Patches.{before_none, indices_next, vertices_next}
use Rattle.slice_append.specs.Appended.{Appended, appended_none, appended_written, behind, part_low}
use Rattle.stitch_count.specs.Views.{View, kept_in, row_positions, row_normals, row_indices, viewed_row, viewed_rows, viewed_positions, viewed_normals, viewed_indices}
use Rattle.stitch_count.specs.Counting.{Stands, views_in, views_of}
use Rattle.stitch_write.specs.Writing.{RowWritable, RowWritten, BodyWritable, BodyWritten}
use Rattle.stitch_write.specs.Tables.{table_more}
use Rattle.stitch_write.specs.Lengths.{row_positions_length, row_normals_length}
use Rattle.stitch_write.specs.BodyLengths.{viewed_positions_length, viewed_indices_length}
use Rattle.stitch_count.specs.RowLaws.{stands_kept}
use Rattle.stitch_count.specs.RowByRow.{views_from, vertices_within, indices_within, views_here}
use Rattle.edge_uses.specs.RowUses.{row_inside}

-- the rows before row k are written: W became E, and R, P, N, I became S, Q, M, J, where vo vertices and io indices stand
pub record WritingRows (table : List ℕ) (ps ns : List Float) (is : List ℕ) (sag : Float) (v list count at ts flags : ℕ) (W R : List ℕ) (P N : List Float) (I : List ℕ) (vo io base i k : ℕ)
    (E S : List ℕ) (Q M : List Float) (J : List ℕ) : Type 0 where
  pub low : k ≤ length (rows_of table)
  pub at_v : base ≡ vertices_before (rows_of table) k
  pub at_i : i ≡ indices_before (rows_of table) k
  pub done_rows : List Row
  pub done_positions : List Float
  pub done_normals : List Float
  pub done_indices : List ℕ
  pub rows_are : done_rows ++ viewed_rows (drop k (rows_of table)) (views_from ps is sag v list count flags base i (drop k (rows_of table)) W)
      ≡ viewed_rows (rows_of table) (views_of table ps is sag v list count flags W)
  pub positions_are : done_positions ++ viewed_positions ps (drop k (rows_of table)) (drop (3 * base) ps) (views_from ps is sag v list count flags base i (drop k (rows_of table)) W)
      ≡ viewed_positions ps (rows_of table) ps (views_of table ps is sag v list count flags W)
  pub normals_are : done_normals ++ viewed_normals ns base (drop k (rows_of table)) (drop (3 * base) ns) (views_from ps is sag v list count flags base i (drop k (rows_of table)) W)
      ≡ viewed_normals ns 0 (rows_of table) ns (views_of table ps is sag v list count flags W)
  pub indices_are : done_indices ++ viewed_indices (drop k (rows_of table)) (views_from ps is sag v list count flags base i (drop k (rows_of table)) W)
      ≡ viewed_indices (rows_of table) (views_of table ps is sag v list count flags W)
  pub rows_many : length done_rows ≡ k
  pub positions_many : length done_positions ≡ 3 * vo
  pub normals_many : length done_normals ≡ 3 * vo
  pub indices_many : length done_indices ≡ io
  pub rows_put : Appended 0 (table_of done_rows) R S
  pub positions_put : Appended 0 done_positions P Q
  pub normals_put : Appended 0 done_normals N M
  pub indices_put : Appended 0 done_indices I J
  pub front : take at E ≡ take at W
  pub rest : drop (ts + 3 * count) E ≡ drop (ts + 3 * count) W
  pub long : length E ≡ length W
  pub rows_long : length S ≡ length R
  pub positions_long : length Q ≡ length P
  pub normals_long : length M ≡ length N
  pub indices_long : length J ≡ length I

-- the flat table of no rows
table_none : table_of [] ≡ []
unfolding table_of
table_none = refl

module _ {table : List ℕ} {ps ns : List Float} {is : List ℕ} {sag beyond : Float} {v list count at ts flags order boxes top : ℕ} {W R : List ℕ} {P N : List Float} {I : List ℕ}
    (g : BodyWritable table ps ns is sag beyond v list count at ts flags order boxes top W R P N I) where
  -- none is written yet
  pub writing_none : WritingRows table ps ns is sag v list count at ts flags W R P N I 0 0 0 0 0 W R P N I
  writing_none =
      record {
        low = omega arith;
        at_v = sym (before_none (rows_of table)).0;
        at_i = sym (before_none (rows_of table)).1;
        done_rows = [];
        done_positions = [];
        done_normals = [];
        done_indices = [];
        rows_are = refl;
        positions_are = refl;
        normals_are = refl;
        indices_are = refl;
        rows_many = refl;
        positions_many = refl;
        normals_many = refl;
        indices_many = refl;
        rows_put = subst (λ (xs : List ℕ). Appended 0 xs R R) (sym table_none) (appended_none 0 R);
        positions_put = appended_none 0 P;
        normals_put = appended_none 0 N;
        indices_put = appended_none 0 I;
        front = refl;
        rest = refl;
        long = refl;
        rows_long = refl;
        positions_long = refl;
        normals_long = refl;
        indices_long = refl;
      }

  -- how many positions there are in all
  positions_all : length (viewed_positions ps (rows_of table) ps (views_of table ps is sag v list count flags W)) ≡ 3 * (v + sum_of kept_in (views_of table ps is sag v list count flags W))
  positions_all =
      omega (
        arith,
        g.body.vertices,
        viewed_positions_length sag ps (take v W) (take count (drop list W)) 0 (take (length is) (drop flags W)) (rows_of table) is ps ps (omega (arith, g.body.stands.all, g.body.vertices)),
      )

  -- how many indices
  indices_all : length (viewed_indices (rows_of table) (views_of table ps is sag v list count flags W)) ≡ length is + 3 * sum_of kept_in (views_of table ps is sag v list count flags W)
  unfolding row_at
  indices_all =
      let marked : length (take (length is) (drop flags W)) ≡ length is =
      length-take-le (length is) (drop flags W) (omega (arith, length-drop flags W, g.body.stands.behind, g.body.stands.apart, g.body.stands.long)) in
      omega (
        arith,
        g.body.all,
        viewed_indices_length sag ps (take v W) (take count (drop list W)) 0 (take (length is) (drop flags W)) (rows_of table) is g.body.all marked g.body.threes,
      )

  module _ {vo io base i k m n : ℕ} {E S : List ℕ} {Q M : List Float} {J : List ℕ} (c : WritingRows table ps ns is sag v list count at ts flags W R P N I vo io base i k E S Q M J)
      (em : m ≡ length (rows_of table)) (en : n ≡ length is) (l : k < m) {vertices end : ℕ} (ev : vertices ≡ (row_at table k).vertices) (ee : end ≡ i + (row_at table k).indices) where
    more : k < length (rows_of table)
    more = omega arith

    pub end_low : end ≤ length is
    end_low = indices_within g.body k more ev c.at_i ee

    pub base_low : base + vertices ≤ v
    base_low = vertices_within g.body k more ev c.at_v

    -- the views from row k on begin with the row's
    views_first : views_from ps is sag v list count flags base i (drop k (rows_of table)) W
        ≡ views_in ps is sag v list count flags base i end E ∷ views_from ps is sag v list count flags (base + vertices) end (drop (k + 1) (rows_of table)) W
    views_first = views_here g.body k more ev c.at_i ee base E c.front

    -- where the next row's three numbers for each vertex start
    rest_here : (xs : List Float) → drop (3 * vertices) (drop (3 * base) xs) ≡ drop (3 * (base + vertices)) xs
    rest_here xs = let f : 3 * base + 3 * vertices ≡ 3 * (base + vertices) = omega arith in drop-drop (3 * vertices) (3 * base) xs ∙ ap (λ (x : ℕ). drop x xs) f

    -- what the row has
    abbrev vs : List View
    vs = views_in ps is sag v list count flags base i end E

    abbrev own_positions : List Float
    own_positions = take (3 * vertices) (drop (3 * base) ps) ++ row_positions ps vs

    abbrev own_normals : List Float
    own_normals = take (3 * vertices) (drop (3 * base) ns) ++ row_normals ns base vs

    -- the views of the rows behind it
    abbrev later : List (List View)
    later = views_from ps is sag v list count flags (base + vertices) end (drop (k + 1) (rows_of table)) W

    -- what is left to write begins with what the row has
    viewed_here : viewed_rows (drop k (rows_of table)) (views_from ps is sag v list count flags base i (drop k (rows_of table)) W)
        ≡ viewed_row (row_at table k) vs ∷ viewed_rows (drop (k + 1) (rows_of table)) later
    unfolding viewed_rows
    viewed_here = λ j. viewed_rows (rows_here table k more j) (views_first j)

    positions_here : viewed_positions ps (drop k (rows_of table)) (drop (3 * base) ps) (views_from ps is sag v list count flags base i (drop k (rows_of table)) W)
        ≡ own_positions ++ viewed_positions ps (drop (k + 1) (rows_of table)) (drop (3 * (base + vertices)) ps) later
    unfolding viewed_positions
    positions_here =
        (λ j. viewed_positions ps (rows_here table k more j) (drop (3 * base) ps) (views_first j))
        ∙ (λ j. (take (3 * sym ev j) (drop (3 * base) ps) ++ row_positions ps vs) ++ viewed_positions ps (drop (k + 1) (rows_of table)) (drop (3 * sym ev j) (drop (3 * base) ps)) later)
        ∙ ap (λ (xs : List Float). own_positions ++ viewed_positions ps (drop (k + 1) (rows_of table)) xs later) (rest_here ps)

    normals_here : viewed_normals ns base (drop k (rows_of table)) (drop (3 * base) ns) (views_from ps is sag v list count flags base i (drop k (rows_of table)) W)
        ≡ own_normals ++ viewed_normals ns (base + vertices) (drop (k + 1) (rows_of table)) (drop (3 * (base + vertices)) ns) later
    unfolding viewed_normals
    normals_here =
        (λ j. viewed_normals ns base (rows_here table k more j) (drop (3 * base) ns) (views_first j))
        ∙ (λ j. (take (3 * sym ev j) (drop (3 * base) ns) ++ row_normals ns base vs)
        ++ viewed_normals ns (base + sym ev j) (drop (k + 1) (rows_of table)) (drop (3 * sym ev j) (drop (3 * base) ns)) later)
        ∙ ap (λ (xs : List Float). own_normals ++ viewed_normals ns (base + vertices) (drop (k + 1) (rows_of table)) xs later) (rest_here ns)

    indices_here : viewed_indices (drop k (rows_of table)) (views_from ps is sag v list count flags base i (drop k (rows_of table)) W)
        ≡ row_indices vertices vs ++ viewed_indices (drop (k + 1) (rows_of table)) later
    unfolding viewed_indices
    indices_here =
        (λ j. viewed_indices (rows_here table k more j) (views_first j))
        ∙ ap (λ (x : ℕ). row_indices x vs ++ viewed_indices (drop (k + 1) (rows_of table)) later) (sym ev)

    -- how long it is
    own_positions_long : length own_positions ≡ 3 * (vertices + kept_in vs)
    own_positions_long =
        omega (
          arith,
          length-append (take (3 * vertices) (drop (3 * base) ps)) (row_positions ps vs),
          length-take-le (3 * vertices) (drop (3 * base) ps) (omega (arith, length-drop (3 * base) ps, base_low, g.body.stands.all)),
          row_positions_length ps vs,
        )

    own_normals_long : length own_normals ≡ 3 * (vertices + kept_in vs)
    own_normals_long =
        omega (
          arith,
          length-append (take (3 * vertices) (drop (3 * base) ns)) (row_normals ns base vs),
          length-take-le (3 * vertices) (drop (3 * base) ns) (omega (arith, length-drop (3 * base) ns, base_low, g.all)),
          row_normals_length ns base vs,
        )

    -- with what is written it is at most all
    vertices_fit : vo + vertices + kept_in vs ≤ v + sum_of kept_in (views_of table ps is sag v list count flags W)
    vertices_fit =
        omega (
          arith,
          part_low c.done_positions own_positions (viewed_positions ps (drop (k + 1) (rows_of table)) (drop (3 * (base + vertices)) ps) later)
              (viewed_positions ps (rows_of table) ps (views_of table ps is sag v list count flags W)) (ap (λ (xs : List Float). c.done_positions ++ xs) (sym positions_here) ∙ c.positions_are),
          own_positions_long,
          c.positions_many,
          positions_all,
        )

    indices_fit : io + length (row_indices vertices vs) ≤ length is + 3 * sum_of kept_in (views_of table ps is sag v list count flags W)
    indices_fit =
        omega (
          arith,
          part_low c.done_indices (row_indices vertices vs) (viewed_indices (drop (k + 1) (rows_of table)) later)
              (viewed_indices (rows_of table) (views_of table ps is sag v list count flags W)) (ap (λ (xs : List ℕ). c.done_indices ++ xs) (sym indices_here) ∙ c.indices_are),
          c.indices_many,
          indices_all,
        )

    -- the row can be written
    pub row_writable : RowWritable ps ns is sag beyond n v list count at ts flags order boxes top base vertices i end vo io E Q M J
    unfolding row_at
    row_writable =
        record {
          stands = subst (λ (x : ℕ). Stands ps sag beyond x v list count at ts flags order boxes top E) (sym en) (stands_kept g.body.stands c.front c.rest c.long);
          ordered = omega arith;
          whole = ap (λ (x : ℕ). x % 3) size ∙ g.body.threes k more;
          inside = omega (arith, end_low);
          all_indices_lem = en;
          few = omega (arith, g.body.all, g.body.few);
          below = row_inside table is k (λ j h. g.body.inside k j more h) c.at_i ee ev;
          vertices_low = base_low;
          all = g.all;
          small = omega (arith, vertices_fit, g.small);
          room_positions = omega (arith, vertices_fit, g.room_positions, c.positions_long);
          room_normals = omega (arith, vertices_fit, g.room_normals, c.normals_long);
          room_indices = omega (arith, indices_fit, g.room_indices, c.indices_long);
        }
      where
        size : end - i ≡ (row_at table k).indices
        size = omega arith

    -- there is room for its numbers
    pub row_room : row_width * k + row_width ≤ length S
    row_room = omega (arith, more, g.room_rows, c.rows_long)

    module _ {x y : ℕ} {F : List ℕ} {Q' M' : List Float} {J' : List ℕ} (d : RowWritten ps ns is sag v list count at ts flags base vertices i end vo io E F Q Q' M M' J J' x y) where
      -- where it ends is small
      pub vertices_small : x ≤ 262144
      vertices_small = omega (arith, d.vertices_end, vertices_fit, g.small)

      pub indices_small : y ≤ 786432
      indices_small = omega (arith, d.indices_end, indices_fit, g.small_indices)

      -- one row more is written
      pub writing_more : {shell face outcome a b bin : ℕ} {S' : List ℕ} → shell ≡ (row_at table k).shell → face ≡ (row_at table k).face → outcome ≡ (row_at table k).outcome → a ≡ x - vo → b ≡ y - io
          → bin ≡ (row_at table k).bin
          → Appended (row_width * k) (shell ∷ face ∷ outcome ∷ a ∷ b ∷ bin ∷ []) S S' → length F ≡ length E → length S' ≡ length S → length Q' ≡ length Q → length M' ≡ length M → length J' ≡ length J
          → WritingRows table ps ns is sag v list count at ts flags W R P N I x y (base + vertices) end (k + 1) F S' Q' M' J'
      unfolding row_at
      writing_more {shell} {face} {outcome} {a} {b} {bin} {S'} es ef eo ea eb en put lf ls lq lm lj =
          record {
            low = omega arith;
            at_v = omega (arith, c.at_v, ev, vertices_next table k more);
            at_i = omega (arith, c.at_i, ee, indices_next table k more);
            done_rows = c.done_rows ++ r ∷ [];
            done_positions = c.done_positions ++ own_positions;
            done_normals = c.done_normals ++ own_normals;
            done_indices = c.done_indices ++ row_indices vertices vs;
            rows_are = append_assoc c.done_rows (r ∷ []) _ ∙ ap (λ (xs : List Row). c.done_rows ++ xs) (sym viewed_here) ∙ c.rows_are;
            positions_are = append_assoc c.done_positions own_positions _ ∙ ap (λ (xs : List Float). c.done_positions ++ xs) (sym positions_here) ∙ c.positions_are;
            normals_are = append_assoc c.done_normals own_normals _ ∙ ap (λ (xs : List Float). c.done_normals ++ xs) (sym normals_here) ∙ c.normals_are;
            indices_are = append_assoc c.done_indices (row_indices vertices vs) _ ∙ ap (λ (xs : List ℕ). c.done_indices ++ xs) (sym indices_here) ∙ c.indices_are;
            rows_many = omega (arith, length-append c.done_rows (r ∷ []), c.rows_many);
            positions_many = omega (arith, length-append c.done_positions own_positions, c.positions_many, own_positions_long, d.vertices_end);
            normals_many = omega (arith, length-append c.done_normals own_normals, c.normals_many, own_normals_long, d.vertices_end);
            indices_many = omega (arith, length-append c.done_indices (row_indices vertices vs), c.indices_many, d.indices_end);
            rows_put = subst (λ (xs : List ℕ). Appended 0 xs R S') (sym (table_more c.done_rows r)) (behind c.rows_put (omega (arith, table_length c.done_rows, c.rows_many)) numbers);
            positions_put = behind c.positions_put c.positions_many d.positions;
            normals_put = behind c.normals_put c.normals_many d.normals;
            indices_put = behind c.indices_put c.indices_many d.indices_are;
            front = d.front ∙ c.front;
            rest = d.rest ∙ c.rest;
            long = lf ∙ c.long;
            rows_long = ls ∙ c.rows_long;
            positions_long = lq ∙ c.positions_long;
            normals_long = lm ∙ c.normals_long;
            indices_long = lj ∙ c.indices_long;
          }
        where
          r : Row
          r = viewed_row (row_at table k) vs

          many : a ≡ (row_at table k).vertices + kept_in vs
          many = omega (arith, d.vertices_end)

          threes : b ≡ length (row_indices (row_at table k).vertices vs)
          threes = let e : b ≡ length (row_indices vertices vs) = omega (arith, d.indices_end) in e ∙ ap (λ (z : ℕ). length (row_indices z vs)) ev

          numbers : Appended (row_width * k) (r.shell ∷ r.face ∷ r.outcome ∷ r.vertices ∷ r.indices ∷ r.bin ∷ []) S S'
          numbers = subst (λ (xs : List ℕ). Appended (row_width * k) xs S S') (λ j. es j ∷ ef j ∷ eo j ∷ many j ∷ threes j ∷ en j ∷ []) put

  -- all are
  pub writing_all : {vo io base i k m : ℕ} {E S : List ℕ} {Q M : List Float} {J : List ℕ} → WritingRows table ps ns is sag v list count at ts flags W R P N I vo io base i k E S Q M J
      → m ≡ length (rows_of table) → m ≤ k → BodyWritten table ps ns is sag v list count at ts flags W E R S P Q N M I J
  unfolding viewed_rows viewed_positions viewed_normals viewed_indices
  writing_all {vo} {io} {base} {i} {k} {m} {E} {S} {Q} {M} {J} c em l =
      record {
        rows_are = appended_written c.rows_put ∙ ap (λ (xs : List Row). written (table_of xs) R) (whole c.done_rows _ (λ rows. viewed_rows rows left) refl c.rows_are);
        positions_are = appended_written c.positions_put ∙ ap (λ (xs : List Float). written xs P)
            (whole c.done_positions _ (λ rows. viewed_positions ps rows (drop (3 * base) ps) left) refl c.positions_are);
        normals_are = appended_written c.normals_put ∙ ap (λ (xs : List Float). written xs N)
            (whole c.done_normals _ (λ rows. viewed_normals ns base rows (drop (3 * base) ns) left) refl c.normals_are);
        indices_are = appended_written c.indices_put ∙ ap (λ (xs : List ℕ). written xs I) (whole c.done_indices _ (λ rows. viewed_indices rows left) refl c.indices_are);
        front = c.front;
        rest = c.rest;
      }
    where
      none : drop k (rows_of table) ≡ []
      none = drop_of_length-le (rows_of table) {i = k} (omega arith)

      left : List (List View)
      left = views_from ps is sag v list count flags base i (drop k (rows_of table)) W

      -- nothing is left of a list that has nothing for no rows
      whole : {A : Type 0} (done all : List A) (rest : List Row → List A) → rest [] ≡ [] → done ++ rest (drop k (rows_of table)) ≡ all → done ≡ all
      whole {A} done all rest e h = sym (append-nil done) ∙ ap (λ (xs : List A). done ++ xs) (sym e) ∙ ap (λ (rows : List Row). done ++ rest rows) (sym none) ∙ h
