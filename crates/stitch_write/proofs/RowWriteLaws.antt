-- Laws of writing one row: its own vertices, then triangle after triangle. Assumes nothing.
use mathlib.Core.Path.{◌≡◌, refl, sym, ap, ◌∙◌, subst}
use Rattle.std.specs.Prelude.{None}
use mathlib.Core.List.{List, [], ◌∷◌, ◌++◌, flat_map, append_assoc, append-nil}
use Prim.Native.Nat.{ℕ, ◌+◌, ◌-◌, ◌*◌, ◌%◌, ◌<◌, ◌≤◌}
use native.Mathlib.Nat.{add-zero}
use native.Mathlib.Omega.{arith}
use lib.ListN.{length, get_or, take, drop, length-append, length-drop}
use lib.Seq.{length-take-le}
use lib.Ieee.{Float}
use Rattle.lists.specs.Lists.{sum_of}
use Rattle.body_rows.specs.Body.{triangles_of}
use Rattle.stitch_splits.specs.Entries.{Entry}
use Rattle.stitch_splits.specs.Found.{triangle_kept}
use Rattle.stitch_splits.specs.Places.{OnEdges}
use Rattle.stitch_rings.specs.Rings.{new_positions, new_normals, ring_after, fan_go}
use Rattle.slice_append.specs.Appended.{Appended, appended_none, appended_twice, appended_long}
use Rattle.stitch_count.specs.Views.{View, row_views, kept_in, row_positions, row_normals, row_indices}
use Rattle.stitch_count.specs.Counting.{sides_in, views_in, RowReady}
use Rattle.stitch_write.specs.Lengths.{kept_edges, fan_length, positions_length, normals_length, row_positions_length, row_normals_length}
use Rattle.stitch_write.specs.Writing.{kept_at, fan_at, TriangleWritable, TriangleWritten, RowWritable, RowWritten}
use Rattle.stitch_count.specs.RowLaws.{Reached, triangle_ready, three, view, views_here, names_are, list_is, sides_are}

-- ---- views behind views

-- the new vertices of both
kept_append : (xs ys : List View) → kept_in (xs ++ ys) ≡ kept_in xs + kept_in ys
unfolding kept_in sum_of
kept_append [] ys = omega arith
kept_append (x ∷ xs) ys = omega (arith, kept_append xs ys)

-- those of one
kept_one : (x : View) → kept_in (x ∷ []) ≡ length x.kept
unfolding kept_in sum_of
kept_one x = omega arith

-- the positions of one triangle more
positions_more : (ps : List Float) (xs : List View) (x : View) → row_positions ps (xs ++ x ∷ []) ≡ row_positions ps xs ++ new_positions ps x.kept
unfolding flat_map row_positions
positions_more ps [] x = append-nil (new_positions ps x.kept)
positions_more ps (y ∷ xs) x =
    ap (λ (l : List Float). new_positions ps y.kept ++ l) (positions_more ps xs x)
    ∙ sym (append_assoc (new_positions ps y.kept) (row_positions ps xs) (new_positions ps x.kept))

-- its normals
normals_more : (ns : List Float) (base : ℕ) (xs : List View) (x : View)
    → row_normals ns base (xs ++ x ∷ []) ≡ row_normals ns base xs ++ new_normals ns (base + x.a) (base + x.b) (base + x.c) x.kept
unfolding flat_map row_normals
normals_more ns base [] x = append-nil (new_normals ns (base + x.a) (base + x.b) (base + x.c) x.kept)
normals_more ns base (y ∷ xs) x =
    ap (λ (l : List Float). new_normals ns (base + y.a) (base + y.b) (base + y.c) y.kept ++ l) (normals_more ns base xs x)
    ∙ sym
    (append_assoc
    (new_normals ns (base + y.a) (base + y.b) (base + y.c) y.kept)
    (row_normals ns base xs)
    (new_normals ns (base + x.a) (base + x.b) (base + x.c) x.kept))

-- the indices of views behind views
indices_append : (next : ℕ) (xs ys : List View) → row_indices next (xs ++ ys) ≡ row_indices next xs ++ row_indices (next + kept_in xs) ys
unfolding row_indices kept_in sum_of
indices_append next [] ys = ap (λ (m : ℕ). row_indices m ys) (sym (add-zero next))
indices_append next (x ∷ xs) ys =
    let f = fan_go x.a None (ring_after x.b x.c next x.kept) in
    let e : next + length x.kept + kept_in xs ≡ next + (length x.kept + kept_in xs) = omega arith in
    ap (λ (l : List ℕ). f ++ l) (indices_append (next + length x.kept) xs ys)
    ∙ sym (append_assoc f (row_indices (next + length x.kept) xs) (row_indices (next + length x.kept + kept_in xs) ys))
    ∙ ap (λ (m : ℕ). (f ++ row_indices (next + length x.kept) xs) ++ row_indices m ys) e

-- the indices of one triangle more
indices_more : (next : ℕ) (xs : List View) (x : View)
    → row_indices next (xs ++ x ∷ []) ≡ row_indices next xs ++ fan_go x.a None (ring_after x.b x.c (next + kept_in xs) x.kept)
unfolding row_indices
indices_more next xs x =
    let f = fan_go x.a None (ring_after x.b x.c (next + kept_in xs) x.kept) in
    indices_append next xs (x ∷ []) ∙ ap (λ (l : List ℕ). row_indices next xs ++ l) (append-nil f)

-- a front of the views has no more indices than all
indices_front_low : (next : ℕ) (xs ys : List View) → length (row_indices next xs) ≤ length (row_indices next (xs ++ ys))
indices_front_low next xs ys = omega (arith, ap length (indices_append next xs ys), length-append (row_indices next xs) (row_indices (next + kept_in xs) ys))

-- ---- the row

-- the triangles before index k are written behind the row's own vertices: the slices W, P, N, I became E, P', N', I'
pub record Writing (ps ns : List Float) (is : List ℕ) (sag : Float) (v list count at ts flags base vertices from to vo io : ℕ) (W : List ℕ) (P N : List Float) (I : List ℕ) (E : List ℕ)
    (P' N' : List Float) (I' : List ℕ)
    (vertices' indices' k : ℕ) : Type 0 where
  pub done : List View
  pub whole : done ++ views_in ps is sag v list count flags base k to W ≡ views_in ps is sag v list count flags base from to W
  pub aligned : (to - k) % 3 ≡ 0
  pub low : from ≤ k
  pub high : k ≤ to
  pub positions : Appended (3 * (vo + vertices)) (row_positions ps done) P P'
  pub normals : Appended (3 * (vo + vertices)) (row_normals ns base done) N N'
  pub indices_are : Appended io (row_indices vertices done) I I'
  pub vertices_end : vertices' ≡ vo + vertices + kept_in done
  pub indices_end : indices' ≡ io + length (row_indices vertices done)
  pub front : take at E ≡ take at W
  pub rest : drop (ts + 3 * count) E ≡ drop (ts + 3 * count) W
  pub long : length E ≡ length W
  pub long_positions : length P' ≡ length P
  pub long_normals : length N' ≡ length N
  pub long_indices : length I' ≡ length I

module _ {ps ns : List Float} {is : List ℕ} {sag beyond : Float} {n v list count at ts flags order boxes top base vertices from to vo io : ℕ} {W : List ℕ} {P N : List Float} {I : List ℕ}
    (g : RowWritable ps ns is sag beyond n v list count at ts flags order boxes top base vertices from to vo io W P N I) where
  -- ---- the row's own vertices

  -- its positions are there
  pub own_positions : 3 * (base + vertices) ≤ length ps
  own_positions = omega (arith, g.vertices_low, g.stands.all)

  -- and its normals
  pub own_normals : 3 * (base + vertices) ≤ length ns
  own_normals = omega (arith, g.vertices_low, g.all)

  -- such a stretch has three numbers for each vertex
  stretch_long : (xs : List Float) → 3 * (base + vertices) ≤ length xs → length (take (3 * (base + vertices) - 3 * base) (drop (3 * base) xs)) ≡ 3 * (base + vertices) - 3 * base
  stretch_long xs h = length-take-le (3 * (base + vertices) - 3 * base) (drop (3 * base) xs) (omega (arith, h, length-drop (3 * base) xs))

  -- there is room for the positions
  pub positions_room : 3 * vo + length (take (3 * (base + vertices) - 3 * base) (drop (3 * base) ps)) ≤ length P
  positions_room = omega (arith, stretch_long ps own_positions, g.room_positions)

  -- and for the normals
  pub normals_room : 3 * vo + length (take (3 * (base + vertices) - 3 * base) (drop (3 * base) ns)) ≤ length N
  normals_room = omega (arith, stretch_long ns own_normals, g.room_normals)

  -- such a stretch, in the contract's words
  own : (xs : List Float) {X Y : List Float} → Appended (3 * vo) (take (3 * (base + vertices) - 3 * base) (drop (3 * base) xs)) X Y → Appended (3 * vo) (take (3 * vertices) (drop (3 * base) xs)) X Y
  own xs {X} {Y} =
      let size : 3 * (base + vertices) - 3 * base ≡ 3 * vertices = omega arith in
      subst (λ (m : ℕ). Appended (3 * vo) (take m (drop (3 * base) xs)) X Y) size

  -- a stretch of that many numbers
  own_long : (xs : List Float) → length xs ≡ 3 * v → length (take (3 * vertices) (drop (3 * base) xs)) ≡ 3 * vertices
  own_long xs e = length-take-le (3 * vertices) (drop (3 * base) xs) (omega (arith, length-drop (3 * base) xs, g.vertices_low))

  module _ {Q M : List Float} (p : Appended (3 * vo) (take (3 * (base + vertices) - 3 * base) (drop (3 * base) ps)) P Q)
      (q : Appended (3 * vo) (take (3 * (base + vertices) - 3 * base) (drop (3 * base) ns)) N M) where
    -- the slice of the positions is as long as it was
    pub long_p : length Q ≡ length P
    long_p = appended_long (own ps p) (omega (arith, own_long ps g.stands.all, g.room_positions))

    -- so is that of the normals
    pub long_n : length M ≡ length N
    long_n = appended_long (own ns q) (omega (arith, own_long ns g.all, g.room_normals))

    -- no triangle is written yet
    pub writing_none : Writing ps ns is sag v list count at ts flags base vertices from to vo io W Q M I W Q M I (vo + vertices) io from
    unfolding row_positions row_normals flat_map row_indices kept_in sum_of
    writing_none =
        record {
          done = [];
          whole = refl;
          aligned = g.whole;
          low = omega arith;
          high = g.ordered;
          positions = appended_none (3 * (vo + vertices)) Q;
          normals = appended_none (3 * (vo + vertices)) M;
          indices_are = appended_none io I;
          vertices_end = omega arith;
          indices_end = omega arith;
          front = refl;
          rest = refl;
          long = refl;
          long_positions = refl;
          long_normals = refl;
          long_indices = refl;
        }

    -- all triangles are
    pub writing_all : {E : List ℕ} {P' N' : List Float} {I' : List ℕ} {vertices' indices' k : ℕ}
        → Writing ps ns is sag v list count at ts flags base vertices from to vo io W Q M I E P' N' I' vertices' indices' k → to ≤ k
        → RowWritten ps ns is sag v list count at ts flags base vertices from to vo io W E P P' N N' I I' vertices' indices'
    unfolding row_views triangles_of
    writing_all {E} {P'} {N'} {I'} {vertices'} {indices'} {k} c l =
        let all = views_in ps is sag v list count flags base from to W in
        let z : to - k ≡ 0 = omega arith in
        let none : views_in ps is sag v list count flags base k to W ≡ [] =
        ap (λ (m : ℕ). row_views sag ps (take v W) (take count (drop list W)) base (take m (drop (flags + k) W)) (triangles_of (take m (drop k is)))) z in
        let e : c.done ≡ all = sym (append-nil c.done) ∙ ap (λ (l : List View). c.done ++ l) (sym none) ∙ c.whole in
        let at_p : 3 * (vo + vertices) ≡ 3 * vo + length (take (3 * vertices) (drop (3 * base) ps)) = omega (arith, own_long ps g.stands.all) in
        let at_n : 3 * (vo + vertices) ≡ 3 * vo + length (take (3 * vertices) (drop (3 * base) ns)) = omega (arith, own_long ns g.all) in
        record {
          positions =
              subst
              (λ (vs : List View). Appended (3 * vo) (take (3 * vertices) (drop (3 * base) ps) ++ row_positions ps vs) P P')
              e
              (appended_twice (own ps p) (subst (λ (o : ℕ). Appended o (row_positions ps c.done) Q P') at_p c.positions));
          normals =
              subst
              (λ (vs : List View). Appended (3 * vo) (take (3 * vertices) (drop (3 * base) ns) ++ row_normals ns base vs) N N')
              e
              (appended_twice (own ns q) (subst (λ (o : ℕ). Appended o (row_normals ns base c.done) M N') at_n c.normals));
          indices_are = subst (λ (vs : List View). Appended io (row_indices vertices vs) I I') e c.indices_are;
          vertices_end = c.vertices_end ∙ ap (λ (vs : List View). vo + vertices + kept_in vs) e;
          indices_end = c.indices_end ∙ ap (λ (vs : List View). io + length (row_indices vertices vs)) e;
          front = c.front;
          rest = c.rest;
        }

  -- ---- one triangle

  module _ {Q M : List Float} (lq : length Q ≡ length P) (lm : length M ≡ length N) {E : List ℕ} {P' N' : List Float} {I' : List ℕ} {vertices' indices' k : ℕ}
      (c : Writing ps ns is sag v list count at ts flags base vertices from to vo io W Q M I E P' N' I' vertices' indices' k) (l : k < to) where
    -- the rest of the row can be counted
    row : RowReady ps is sag beyond n v list count at ts flags order boxes top base vertices k to 0 0 W
    row =
        record {
          stands = g.stands;
          ordered = c.high;
          whole = c.aligned;
          inside = g.inside;
          all = g.all_indices_lem;
          few = g.few;
          below = λ j a b. g.below j (omega (arith, c.low)) b;
          vertices_low = g.vertices_low;
          found_low = omega arith;
          kept_low = omega arith;
        }

    -- its first triangle is reached
    reached : Reached count at ts k to W k E
    reached = record { aligned = c.aligned; low = omega arith; high = c.high; front = c.front; rest = c.rest; long = c.long }

    -- the triangle's view
    abbrev here : View
    here = view row reached l

    -- the views behind it
    abbrev behind : List View
    behind = views_in ps is sag v list count flags base (k + 3) to W

    -- it keeps what its view keeps
    kept_here : kept_at ps is sag v list count flags base k E ≡ here.kept
    kept_here = λ i. triangle_kept sag ps (names_are row reached l i) (sides_are row reached l i) (list_is row reached l i)

    -- its entries are on its edges
    here_edges : OnEdges here.kept
    here_edges = kept_edges sag ps (take v W) (sides_in ps is v flags base k W) (take count (drop list W))

    -- the row's views, with it in the middle
    whole_here : (c.done ++ here ∷ []) ++ behind ≡ views_in ps is sag v list count flags base from to W
    whole_here = append_assoc c.done (here ∷ []) behind ∙ ap (λ (l : List View). c.done ++ l) (sym (views_here row reached l)) ∙ c.whole

    -- the new vertices up to it
    kept_now : kept_in (c.done ++ here ∷ []) ≡ kept_in c.done + length here.kept
    kept_now = kept_append c.done (here ∷ []) ∙ ap (λ (m : ℕ). kept_in c.done + m) (kept_one here)

    -- are no more than the row's
    kept_room : kept_in c.done + length here.kept ≤ kept_in (views_in ps is sag v list count flags base from to W)
    kept_room = omega (arith, kept_now, kept_append (c.done ++ here ∷ []) behind, ap kept_in whole_here)

    -- its fan
    abbrev fan : List ℕ
    fan = fan_at is k (vertices + kept_in c.done) here.kept

    -- has three indices for each entry, and three more
    fan_long : length fan ≡ 3 * length here.kept + 3
    fan_long = fan_length (get_or is k 0) (get_or is (k + 1) 0) (get_or is (k + 2) 0) (vertices + kept_in c.done) here.kept here_edges

    -- the indices up to it
    indices_now : row_indices vertices (c.done ++ here ∷ []) ≡ row_indices vertices c.done ++ fan
    indices_now = indices_more vertices c.done here

    -- are no more than the row's
    indices_room : length (row_indices vertices c.done) + length fan ≤ length (row_indices vertices (views_in ps is sag v list count flags base from to W))
    indices_room =
        omega (
          arith,
          ap length indices_now,
          length-append (row_indices vertices c.done) fan,
          indices_front_low vertices (c.done ++ here ∷ []) behind,
          ap (λ (vs : List View). length (row_indices vertices vs)) whole_here,
        )

    -- the number of its first new vertex
    next_is : vertices' - vo ≡ vertices + kept_in c.done
    next_is = omega (arith, c.vertices_end)

    -- it can be written
    pub triangle_writable : TriangleWritable ps ns is sag beyond n v list count at ts flags order boxes top base k (vertices' - vo) vertices' indices' E P' N' I'
    triangle_writable =
        let e = ap length kept_here in
        record {
          ready = triangle_ready row reached l;
          all = g.all;
          small = omega (arith, next_is, kept_room, g.small);
          room_positions = omega (arith, e, c.vertices_end, kept_room, g.room_positions, c.long_positions, lq);
          room_normals = omega (arith, e, c.vertices_end, kept_room, g.room_normals, c.long_normals, lm);
          room_indices = omega (arith, e, c.indices_end, indices_room, fan_long, g.room_indices, c.long_indices);
        }

    -- it was written
    pub writing_more : {F : List ℕ} {P'' N'' : List Float} {I'' : List ℕ} {x y : ℕ}
        → TriangleWritten ps ns is sag v list count at ts flags base k (vertices' - vo) vertices' indices' E F P' P'' N' N'' I' I'' x y → length F ≡ length E
        → Writing ps ns is sag v list count at ts flags base vertices from to vo io W Q M I F P'' N'' I'' x y (k + 3)
    writing_more {F} {P''} {N''} {I''} {x} {y} d lf =
        let K = kept_at ps is sag v list count flags base k E in
        let at_p : 3 * vertices' ≡ 3 * (vo + vertices) + length (row_positions ps c.done) = omega (arith, c.vertices_end, row_positions_length ps c.done) in
        let at_n : 3 * vertices' ≡ 3 * (vo + vertices) + length (row_normals ns base c.done) = omega (arith, c.vertices_end, row_normals_length ns base c.done) in
        let fan_is : fan_at is k (vertices' - vo) K ≡ fan = λ i. fan_at is k (next_is i) (kept_here i) in
        let rp = triangle_writable.room_positions in
        let rn = triangle_writable.room_normals in
        let ri = triangle_writable.room_indices in
        let e = ap length kept_here in
        record {
          done = c.done ++ here ∷ [];
          whole = whole_here;
          aligned = omega (arith, c.aligned);
          low = omega (arith, c.low);
          high = three row reached l;
          positions =
              subst
              (λ (xs : List Float). Appended (3 * (vo + vertices)) xs Q P'')
              (ap (λ (C : List Entry). row_positions ps c.done ++ new_positions ps C) kept_here ∙ sym (positions_more ps c.done here))
              (appended_twice c.positions (subst (λ (o : ℕ). Appended o (new_positions ps K) P' P'') at_p d.positions));
          normals =
              subst
              (λ (xs : List Float). Appended (3 * (vo + vertices)) xs M N'')
              (ap
              (λ (C : List Entry). row_normals ns base c.done ++ new_normals ns (base + get_or is k 0) (base + get_or is (k + 1) 0) (base + get_or is (k + 2) 0) C)
              kept_here
              ∙ sym (normals_more ns base c.done here))
              (appended_twice
              c.normals
              (subst (λ (o : ℕ). Appended o (new_normals ns (base + get_or is k 0) (base + get_or is (k + 1) 0) (base + get_or is (k + 2) 0) K) N' N'') at_n d.normals));
          indices_are =
              subst
              (λ (xs : List ℕ). Appended io xs I I'')
              (ap (λ (xs : List ℕ). row_indices vertices c.done ++ xs) fan_is ∙ sym indices_now)
              (appended_twice c.indices_are (subst (λ (o : ℕ). Appended o (fan_at is k (vertices' - vo) K) I' I'') c.indices_end d.indices_are));
          vertices_end = omega (arith, d.vertices_end, e, c.vertices_end, kept_now);
          indices_end = omega (arith, d.indices_end, ap length fan_is, c.indices_end, ap length indices_now, length-append (row_indices vertices c.done) fan);
          front = d.front ∙ c.front;
          rest = d.rest ∙ c.rest;
          long = lf ∙ c.long;
          long_positions = appended_long d.positions (omega (arith, rp, positions_length ps K)) ∙ c.long_positions;
          long_normals =
              appended_long
              d.normals
              (omega (arith, rn, normals_length ns (base + get_or is k 0) (base + get_or is (k + 1) 0) (base + get_or is (k + 2) 0) K))
              ∙ c.long_normals;
          long_indices = appended_long d.indices_are (omega (arith, ri, ap length fan_is, fan_long, e)) ∙ c.long_indices;
        }
