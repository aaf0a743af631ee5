-- Laws of gathering loose vertices: a triangle's corners, one row, all rows. Assumes nothing.
use mathlib.Core.Path.{◌≡◌, refl, sym, ap, ◌∙◌, subst}
use mathlib.Core.Bool.{Bool, true, false, cond}
use mathlib.Core.List.{List, [], ◌∷◌}
use Prim.Native.Nat.{ℕ, suc, ◌+◌, ◌-◌, ◌*◌, ◌%◌, ◌<◌, ◌≤◌}
use native.Mathlib.Omega.{arith}
use lib.ListN.{length, get_or, take, drop, drop_of_length-le}
use lib.Seq.{drop-drop, drop-cons}
use Rattle.lists.specs.Stretches.{stretch_front, stretch_three, front_less, rest_less, rest_at, stretch_three_at}
use Rattle.body_rows.specs.Body.{Row, triangles_of, rows_of, all_indices}
use Rattle.body_rows.specs.Rows.{no_row, row_at, vertices_before, indices_before}
use Rattle.body_rows.specs.Patches.{before_none, indices_front, indices_next, indices_room, vertices_next, vertices_room}
use Rattle.edge_uses.specs.RowUses.{row_inside}
use Rattle.stitch_loose_points.specs.Listed.{insert_vertex, insert_triangle, any_set, with_triangle, row_vertices, body_vertices}
use Rattle.stitch_gather.specs.Standing.{Standing, Standable, Stood, TriangleStandable, TriangleStood}
use Rattle.stitch_gather.specs.Gathering.{TriangleGatherable, TriangleGathered, RowGatherable, RowGathered, Gatherable, RowsGathered}
use Rattle.stitch_gather.proofs.StandLaws.{pointed_kept}

-- ---- the corners of a triangle

module _ {v at count a b c : ℕ} {W : List ℕ} (t : TriangleStandable v at count a b c W) where
  module _ {one : ℕ} {X : List ℕ} (i : Stood v at count a W X one) (ex : length X ≡ length W) where
    pub second_standable : Standable v at one b X
    second_standable = record { pointed = pointed_kept t.pointed i.front; room = omega (arith, t.room, i.few); vertex = t.in_b }

    module _ {two : ℕ} {Y : List ℕ} (j : Stood v at one b X Y two) (ey : length Y ≡ length X) where
      pub third_standable : Standable v at two c Y
      third_standable = record { pointed = pointed_kept t.pointed (j.front ∙ i.front); room = omega (arith, t.room, i.few, j.few); vertex = t.in_c }

      pub triangle_stood : {r : ℕ} {Z : List ℕ} → Stood v at two c Y Z r → TriangleStood v at count a b c W Z r
      triangle_stood {r} {Z} k =
          let nx : take v X ≡ take v W = front_less v (2 * v) W X i.front (omega arith) in
          let ny : take v Y ≡ take v W = front_less v (2 * v) X Y j.front (omega arith) ∙ nx in
          record {
            stands = λ R s.
                subst (λ (l : List ℕ). Standing v at r Z l)
                (λ h. insert_vertex (ny h) c (insert_vertex (nx h) b (insert_vertex (take v W) a R)))
                (k.stands (insert_vertex (take v X) b (insert_vertex (take v W) a R)) (j.stands (insert_vertex (take v W) a R) (i.stands R s)));
            few = omega (arith, i.few, j.few, k.few);
            front = k.front ∙ j.front ∙ i.front;
            rest =
                rest_less (at + two + 1) (at + count + 3) Y Z k.rest (omega (arith, i.few, j.few))
                ∙ rest_less (at + one + 1) (at + count + 3) X Y j.rest (omega (arith, i.few))
                ∙ rest_less (at + count + 1) (at + count + 3) W X i.rest (omega arith);
          }

module _ {is : List ℕ} {v at count base k flags : ℕ} {W : List ℕ} (g : TriangleGatherable is v at count base k flags W) {t : Bool}
    (e : t ≡ any_set (get_or W (flags + k) 0) (get_or W (flags + k + 1) 0) (get_or W (flags + k + 2) 0)) where
  -- a flag is set, and they stand
  pub triangle_gathered : {a b c r : ℕ} {E : List ℕ} → t ≡ true → a ≡ base + get_or is k 0 → b ≡ base + get_or is (k + 1) 0 → c ≡ base + get_or is (k + 2) 0
      → TriangleStood v at count a b c W E r → TriangleGathered is v at count base k flags W E r
  triangle_gathered {a} {b} {c} {r} {E} f ea eb ec i =
      record {
        stands = λ R s.
            subst (λ (l : List ℕ). Standing v at r E l)
            ((λ j. insert_triangle (take v W) (ea j) (eb j) (ec j) R)
            ∙ ap (λ (u : Bool). cond u (insert_triangle (take v W) (base + get_or is k 0) (base + get_or is (k + 1) 0) (base + get_or is (k + 2) 0) R) R) (sym f ∙ e))
            (i.stands R s);
        few = i.few;
        front = i.front;
        rest = i.rest;
      }

  -- none is
  pub triangle_skipped : t ≡ false → TriangleGathered is v at count base k flags W W count
  triangle_skipped f =
      record {
        stands = λ R s.
            subst (λ (l : List ℕ). Standing v at count W l)
            (ap (λ (u : Bool). cond u (insert_triangle (take v W) (base + get_or is k 0) (base + get_or is (k + 1) 0) (base + get_or is (k + 2) 0) R) R) (sym f ∙ e))
            s;
        few = omega arith;
        front = refl;
        rest = refl;
      }

-- ---- what is still to come

-- vertices stand for their points, with which what is still to come makes `all`
pub record StandsOn (v at n : ℕ) (W : List ℕ) (coming : List ℕ → List ℕ) (all : List ℕ) : Type 0 where
  pub now : List ℕ
  pub stands : Standing v at n W now
  pub goes_on : coming now ≡ all

-- ---- one row

-- the triangles before index k are done: W became E
pub record Gathering (is : List ℕ) (v at count base from to flags : ℕ) (W : List ℕ) (found k : ℕ) (E : List ℕ) : Type 0 where
  pub aligned : (to - k) % 3 ≡ 0
  pub low : from ≤ k
  pub high : k ≤ to
  pub few : found ≤ count + (k - from)
  pub front : take (2 * v) E ≡ take (2 * v) W
  pub rest : drop (at + count + (to - from)) E ≡ drop (at + count + (to - from)) W
  pub long : length E ≡ length W
  pub stands : (R : List ℕ) → Standing v at count W R
      → StandsOn v at found E (row_vertices (take v W) base (take (to - k) (drop (flags + k) W)) (triangles_of (take (to - k) (drop k is))))
      (row_vertices (take v W) base (take (to - from) (drop (flags + from) W)) (triangles_of (take (to - from) (drop from is))) R)

module _ {is : List ℕ} {v at count base vertices from to flags : ℕ} {W : List ℕ} (g : RowGatherable is v at count base vertices from to flags W) where
  -- no triangle is done yet
  pub gathering_none : Gathering is v at count base from to flags W count from W
  gathering_none =
      record { aligned = g.whole; low = omega arith; high = g.ordered; few = omega arith; front = refl; rest = refl; long = refl; stands = λ R s. record { now = R; stands = s; goes_on = refl } }

  module _ {found k : ℕ} {E : List ℕ} (s : Gathering is v at count base from to flags W found k E) (l : k < to) where
    -- there is a whole triangle
    pub three : k + 3 ≤ to
    three = omega (arith, s.aligned)

    -- its flags are as they were
    flag_is : (j : ℕ) → get_or E (flags + k + j) 0 ≡ get_or W (flags + k + j) 0
    flag_is j = rest_at (at + count + (to - from)) (flags + k + j) W E 0 s.rest (omega (arith, g.apart))

    -- the flags from k on
    flags_three : take (to - k) (drop (flags + k) W) ≡ get_or W (flags + k) 0 ∷ get_or W (flags + k + 1) 0 ∷ get_or W (flags + k + 2) 0 ∷ take (to - (k + 3)) (drop (flags + (k + 3)) W)
    flags_three = stretch_three_at W flags k to 0 three (omega (arith, g.room))

    -- the definition takes the same step
    step : (R : List ℕ) → row_vertices (take v W) base (take (to - (k + 3)) (drop (flags + (k + 3)) W)) (triangles_of (take (to - (k + 3)) (drop (k + 3) is)))
        (with_triangle (take v W) base is W flags k R)
        ≡ row_vertices (take v W) base (take (to - k) (drop (flags + k) W)) (triangles_of (take (to - k) (drop k is))) R
    unfolding row_vertices triangles_of
    step R =
        sym
        (ap (λ (fs : List ℕ). row_vertices (take v W) base fs (triangles_of (take (to - k) (drop k is))) R) flags_three
        ∙ ap (λ (xs : List ℕ). row_vertices (take v W) base (get_or W (flags + k) 0 ∷ get_or W (flags + k + 1) 0 ∷ get_or W (flags + k + 2) 0 ∷ take (to - (k + 3)) (drop (flags + (k + 3)) W))
        (triangles_of xs) R)
        (stretch_three is k to 0 three g.inside))

    -- the triangle can be gathered
    pub row_triangle : TriangleGatherable is v at found base k flags E
    row_triangle =
        record {
          pointed = pointed_kept g.pointed s.front;
          room = omega (arith, s.few, s.low, s.long, three, g.apart, g.room);
          flags_room = omega (arith, three, g.room, s.long);
          in_a = record { inside = omega (arith, g.inside); low = omega (arith, g.below k s.low l, g.vertices_low) };
          in_b = record { inside = omega (arith, three, g.inside); low = omega (arith, g.below (k + 1) (omega (arith, s.low)) (omega (arith, three)), g.vertices_low) };
          in_c = record { inside = omega (arith, three, g.inside); low = omega (arith, g.below (k + 2) (omega (arith, s.low)) (omega (arith, three)), g.vertices_low) };
        }

    -- the flags and names in E are those in W
    same_triangle : (R : List ℕ) → with_triangle (take v E) base is E flags k R ≡ with_triangle (take v W) base is W flags k R
    same_triangle R =
        let ns : take v E ≡ take v W = front_less v (2 * v) W E s.front (omega arith) in
        let f0 : get_or E (flags + k) 0 ≡ get_or W (flags + k) 0 = rest_at (at + count + (to - from)) (flags + k) W E 0 s.rest (omega (arith, g.apart)) in
        λ i. cond (any_set (f0 i) (flag_is 1 i) (flag_is 2 i)) (insert_triangle (ns i) (base + get_or is k 0) (base + get_or is (k + 1) 0) (base + get_or is (k + 2) 0) R) R

    -- one triangle more is done
    pub gathering_more : {r : ℕ} {F : List ℕ} → TriangleGathered is v at found base k flags E F r → length F ≡ length E → Gathering is v at count base from to flags W r (k + 3) F
    gathering_more {r} {F} i lf =
        record {
          aligned = omega (arith, s.aligned);
          low = omega (arith, s.low);
          high = three;
          few = omega (arith, s.few, s.low, i.few);
          front = i.front ∙ s.front;
          rest = rest_less (at + found + 3) (at + count + (to - from)) E F i.rest (omega (arith, s.few, s.low, three)) ∙ s.rest;
          long = lf ∙ s.long;
          stands = λ R d.
              let o = s.stands R d in
              record {
                now = with_triangle (take v E) base is E flags k o.now;
                stands = i.stands o.now o.stands;
                goes_on =
                    ap (row_vertices (take v W) base (take (to - (k + 3)) (drop (flags + (k + 3)) W)) (triangles_of (take (to - (k + 3)) (drop (k + 3) is)))) (same_triangle o.now)
                    ∙ step o.now
                    ∙ o.goes_on;
              };
        }

  -- all triangles are done
  pub gathering_all : {found k : ℕ} {E : List ℕ} → Gathering is v at count base from to flags W found k E → to ≤ k → RowGathered is v at count base from to flags W E found
  unfolding row_vertices triangles_of
  gathering_all {found} {k} {E} s l =
      let z : 0 ≡ to - k = omega arith in
      record {
        stands = λ R d.
            let o = s.stands R d in
            subst (λ (l : List ℕ). Standing v at found E l)
            (ap (λ (n : ℕ). row_vertices (take v W) base (take n (drop (flags + k) W)) (triangles_of (take n (drop k is))) o.now) z ∙ o.goes_on)
            o.stands;
        few = omega (arith, s.few, s.high);
        front = s.front;
        rest = s.rest;
      }

-- ---- all rows

-- the rows before row k are done: W became E
pub record GatheringRows (table is : List ℕ) (v at flags : ℕ) (W : List ℕ) (found base i k : ℕ) (E : List ℕ) : Type 0 where
  pub low : k ≤ length (rows_of table)
  pub at_v : base ≡ vertices_before (rows_of table) k
  pub at_i : i ≡ indices_before (rows_of table) k
  pub few : found ≤ i
  pub front : take (2 * v) E ≡ take (2 * v) W
  pub rest : drop (at + length is) E ≡ drop (at + length is) W
  pub long : length E ≡ length W
  pub stands : Standing v at 0 W []
      → StandsOn v at found E (body_vertices (take v W) base (drop i (take (length is) (drop flags W))) (drop k (rows_of table)) (drop i is))
      (body_vertices (take v W) 0 (take (length is) (drop flags W)) (rows_of table) is [])

module _ {table is : List ℕ} {v at flags : ℕ} {W : List ℕ} (g : Gatherable table is v at flags W) where
  -- no row is done yet
  pub rows_none : GatheringRows table is v at flags W 0 0 0 0 W
  rows_none =
      record {
        low = omega arith;
        at_v = sym (before_none (rows_of table)).0;
        at_i = sym (before_none (rows_of table)).1;
        few = omega arith;
        front = refl;
        rest = refl;
        long = refl;
        stands = λ s. record { now = []; stands = s; goes_on = refl };
      }

  module _ {found base i k m : ℕ} {E : List ℕ} (s : GatheringRows table is v at flags W found base i k E) (em : m ≡ length (rows_of table)) (l : k < m) {vertices end : ℕ}
      (ev : vertices ≡ (row_at table k).vertices) (ee : end ≡ i + (row_at table k).indices) where
    more : k < length (rows_of table)
    more = omega arith

    pub end_low : end ≤ length is
    unfolding row_at
    end_low = omega (arith, s.at_i, indices_room (rows_of table) k more, g.all)

    pub base_low : base + vertices ≤ v
    unfolding row_at
    base_low = omega (arith, s.at_v, ev, vertices_room (rows_of table) k more, g.vertices)

    -- the row's vertices can be gathered
    pub row_gatherable : RowGatherable is v at found base vertices i end flags E
    unfolding row_at
    row_gatherable =
        record {
          pointed = pointed_kept (record { points = g.points; behind = omega (arith, g.behind) }) s.front;
          ordered = omega arith;
          whole = ap (λ (n : ℕ). n % 3) size ∙ g.threes k more;
          inside = end_low;
          below = row_inside table is k (λ j h. g.inside k j more h) s.at_i ee ev;
          vertices_low = base_low;
          apart = omega (arith, s.few, end_low, g.apart);
          room = omega (arith, end_low, s.long, g.room);
        }
      where
        size : end - i ≡ (row_at table k).indices
        size = omega arith

    -- the row's flags
    flags_there : take (end - i) (drop (flags + i) E) ≡ take (row_at table k).indices (drop i (take (length is) (drop flags W)))
    flags_there =
        let size : end - i ≡ (row_at table k).indices = omega arith in
        ap (take (end - i)) (rest_less (at + length is) (flags + i) W E s.rest (omega (arith, g.apart)) ∙ sym (drop-drop i flags W))
        ∙ ap (λ (n : ℕ). take n (drop i (drop flags W))) size
        ∙ sym (stretch_front i (row_at table k).indices (length is) (drop flags W) (omega (arith, end_low)))

    -- the definition takes the same step
    row_step : (R : List ℕ) → body_vertices (take v W) (base + vertices) (drop end (take (length is) (drop flags W))) (drop (k + 1) (rows_of table)) (drop end is)
        (row_vertices (take v E) base (take (end - i) (drop (flags + i) E)) (triangles_of (take (end - i) (drop i is))) R)
        ≡ body_vertices (take v W) base (drop i (take (length is) (drop flags W))) (drop k (rows_of table)) (drop i is) R
    unfolding body_vertices row_at
    row_step R =
        let FL = take (length is) (drop flags W) in
        let r = row_at table k in
        let ns : take v E ≡ take v W = front_less v (2 * v) W E s.front (omega arith) in
        let size : end - i ≡ r.indices = omega arith in
        let f : suc k ≡ k + 1 = omega arith in
        (λ j. body_vertices (take v W) (base + ev j) (drop (ee j) FL) (drop (k + 1) (rows_of table)) (drop (ee j) is)
        (row_vertices (ns j) base (flags_there j) (triangles_of (take (size j) (drop i is))) R))
        ∙ (λ j. body_vertices (take v W) (base + r.vertices) (sym (drop-drop r.indices i FL) j) (drop (sym f j) (rows_of table)) (sym (drop-drop r.indices i is) j)
        (row_vertices (take v W) base (take r.indices (drop i FL)) (triangles_of (take r.indices (drop i is))) R))
        ∙ ap (λ (rows : List Row). body_vertices (take v W) base (drop i FL) rows (drop i is) R) (sym (drop-cons (rows_of table) k no_row more))

    -- one row more is done
    pub rows_more : {r : ℕ} {F : List ℕ} → RowGathered is v at found base i end flags E F r → length F ≡ length E → GatheringRows table is v at flags W r (base + vertices) end (k + 1) F
    unfolding row_at
    rows_more {r} {F} d lf =
        record {
          low = omega arith;
          at_v = omega (arith, s.at_v, ev, vertices_next table k more);
          at_i = omega (arith, s.at_i, ee, indices_next table k more);
          few = omega (arith, s.few, d.few, ee);
          front = d.front ∙ s.front;
          rest = rest_less (at + found + (end - i)) (at + length is) E F d.rest (omega (arith, s.few, end_low)) ∙ s.rest;
          long = lf ∙ s.long;
          stands = λ n.
              let o = s.stands n in
              record {
                now = row_vertices (take v E) base (take (end - i) (drop (flags + i) E)) (triangles_of (take (end - i) (drop i is))) o.now;
                stands = d.stands o.now o.stands;
                goes_on = row_step o.now ∙ o.goes_on;
              };
        }

  -- all rows are done
  pub rows_all : {found base i k m : ℕ} {E : List ℕ} → GatheringRows table is v at flags W found base i k E → m ≡ length (rows_of table) → m ≤ k → RowsGathered table is v at flags W E found
  unfolding body_vertices
  rows_all {found} {base} {i} {k} {m} {E} s em l =
      record {
        stands = λ n.
            let o = s.stands n in
            subst (λ (l : List ℕ). Standing v at found E l)
            (ap (λ (rows : List Row). body_vertices (take v W) base (drop i (take (length is) (drop flags W))) rows (drop i is) o.now)
            (sym (drop_of_length-le (rows_of table) {i = k} (omega arith))) ∙ o.goes_on)
            o.stands;
        few = omega (arith, s.few, s.at_i, g.all, front_of);
        front = s.front;
        rest = s.rest;
      }
    where
      front_of : indices_before (rows_of table) k ≤ all_indices (rows_of table)
      front_of = indices_front (rows_of table) k
