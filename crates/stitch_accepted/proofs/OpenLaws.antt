-- Laws of stitching a body whose splits were found: what was counted and written is the definition's stitched body. Assumes nothing.
use mathlib.Core.Path.{◌≡◌, sym, ap, ◌∙◌}
use mathlib.Core.List.{List, [], map, flat_map}
use Prim.Native.Nat.{ℕ, ◌+◌, ◌*◌, ◌%◌, ◌<◌, ◌≤◌}
use native.Mathlib.Omega.{arith}
use lib.ListN.{length, get_or, take, drop, length-drop}
use lib.Seq.{get_or-take, length-take-le}
use lib.Ieee.{Float}
use Rattle.lists.specs.Lists.{sum_of, written}
use Rattle.lists.specs.Stretches.{stretch_at, rest_less}
use Rattle.point_rules.specs.Rule.{names}
use Rattle.point_rules.specs.Points.{key}
use Rattle.point_rules.specs.Names.{names_length}
use Rattle.join_definition.specs.Join.{joined}
use Rattle.body_rows.specs.Body.{Row, rows_of, table_of, patches_of, all_vertices, all_indices, first_failing}
use Rattle.body_rows.specs.Rows.{no_row, row_at}
use Rattle.edge_uses.specs.Edges.{Use, uses_from}
use Rattle.edge_uses.specs.RowUses.{Inside}
use Rattle.edge_uses.proofs.UseLaws.{rows_uses}
use Rattle.stitch_loose_points.specs.Listed.{loose_of, body_vertices}
use Rattle.stitch_loose_points.proofs.LooseLaws.{loose_is}
use Rattle.stitch_loose_points.specs.Open.{body_uses, flag_of}
use Rattle.stitch_splits.specs.FoundPoints.{Distinct}
use Rattle.stitch_splits.proofs.FoundLaws.{keys_distinct}
use Rattle.stitch_splits.specs.declared.finder.Finder.{Finder}
use Rattle.stitch_definition.specs.StitchedBody.{StitchedBody, stitched_body}
use Rattle.stitch_count.specs.Views.{View, body_views, found_in, kept_in, viewed_rows, viewed_positions, viewed_normals, viewed_indices}
use Rattle.stitch_views.specs.ViewLaws.{Viewable, rows_are, positions_are, normals_are, indices_are, splits_are}
use Rattle.stitch_write.specs.BodyLengths.{vertices_viewed, indices_viewed, rows_length}
use Rattle.stitch_count.specs.Counting.{BodyReady, views_of, BodyCounted}
use Rattle.stitch_count.specs.Prepared.{Prepared}
use Rattle.stitch_result_checks.specs.Results.{result_checks, ResultFits}
use Rattle.stitch_write.specs.Writing.{BodyWritable, BodyWritten}
use Rattle.stitch_count.specs.RowLaws.{stands_flags}
use Rattle.stitch_accepted.proofs.LimitLaws.{checks_same}

-- uses do not depend on normals
uses_any : (f : Row → ℕ) (P : List ℕ) (rows : List Row) (ps ns : List Float) (is : List ℕ) → uses_from f 0 P (patches_of rows ps [] is) ≡ uses_from f 0 P (patches_of rows ps ns is)
uses_any f P rows ps ns is = sym (rows_uses f 0 P rows ps [] is) ∙ rows_uses f 0 P rows ps ns is

-- a body that is ready stays so
ready_kept : {table : List ℕ} {ps : List Float} {is : List ℕ} {sag beyond : Float} {v list count at ts flags order boxes top : ℕ} {W E : List ℕ}
    → BodyReady table ps is sag beyond v list count at ts flags order boxes top W → take flags E ≡ take flags W → drop (ts + 3 * count) E ≡ drop (ts + 3 * count) W → length E ≡ length W
    → BodyReady table ps is sag beyond v list count at ts flags order boxes top E
ready_kept b e r l =
    record { stands = stands_flags b.stands e r l; rows = b.rows; vertices = b.vertices; all = b.all; few = b.few; threes = b.threes; inside = b.inside }

module _ {table : List ℕ} {ps : List Float} (ns : List Float) {is : List ℕ} {sag : Float} {v m : ℕ} {W E : List ℕ} {f : Finder} (p : Prepared table ps is sag v m W E f) where
  -- the loose vertices and the flags
  abbrev gs : List ℕ
  gs = take f.count (drop f.list E)

  abbrev flags : List ℕ
  flags = take (length is) (drop f.flags E)

  inside : Inside (rows_of table) is
  unfolding row_at
  inside = record { below = λ k l j h. p.ready.inside k j l h }

  -- the uses over the body with its normals
  uses_are : body_uses table ps is ≡ uses_from (λ r. 0) 0 (joined (names key ps)) (patches_of (rows_of table) ps ns is)
  uses_are = uses_any (λ r. 0) (joined (names key ps)) (rows_of table) ps ns is

  gs_are : gs ≡ body_vertices (names key ps) 0 (map (flag_of (uses_from (λ r. 0) 0 (joined (names key ps)) (patches_of (rows_of table) ps ns is)))
      (uses_from (λ r. 0) 0 (joined (names key ps)) (patches_of (rows_of table) ps ns is))) (rows_of table) is []
  gs_are = p.loose_are ∙ ap (λ (us : List Use). body_vertices (names key ps) 0 (map (flag_of us) us) (rows_of table) is []) uses_are

  gs_long : length gs ≡ f.count
  gs_long = length-take-le f.count (drop f.list E) (omega (arith, length-drop f.list E, p.ready.stands.listed.room))

  gs_at : (j : ℕ) → j < f.count → get_or gs j 0 ≡ get_or E (f.list + j) 0
  gs_at j l = stretch_at f.list f.count E j 0 l

  name_at : (j : ℕ) → j < f.count → get_or (names key ps) (get_or gs j 0) 0 ≡ get_or E (get_or E (f.list + j) 0) 0
  name_at j l =
      ap (λ (ks : List ℕ). get_or ks (get_or gs j 0) 0) (sym p.names_are)
      ∙ ap (λ (x : ℕ). get_or (take f.v E) x 0) (gs_at j l)
      ∙ get_or-take f.v E (get_or E (f.list + j) 0) 0 (p.ready.stands.listed.below j l)

  distinct : Distinct ps (names key ps) gs
  distinct =
      keys_distinct ps gs
      (λ j k a b. omega (arith, name_at j (omega (arith, gs_long)), name_at k (omega (arith, gs_long)), p.ready.stands.listed.rising j k a (omega (arith, gs_long))))
      (λ j a. omega (arith, gs_at j (omega (arith, gs_long)), p.ready.stands.listed.below j (omega (arith, gs_long)), names_length key ps f.v p.ready.stands.all))

  -- the triangles can be viewed
  viewable : Viewable table ps ns is (names key ps) gs flags
  viewable =
      record {
        all = p.ready.all;
        inside = inside;
        loose = loose_is table ps ns is (names key ps) p.ready.all inside ∙ ap (map (loose_of ps (names key ps))) (sym gs_are);
        distinct = distinct;
        marked = p.flags_are ∙ ap (λ (us : List Use). map (flag_of us) us) uses_are;
      }

  -- the views by the names of the points
  abbrev views : List (List View)
  views = body_views sag ps (names key ps) gs 0 flags (rows_of table) is

  views_are : views_of table ps is f.sag f.v f.list f.count f.flags E ≡ views
  views_are = λ i. body_views (p.sag_is i) ps (p.names_are i) gs 0 flags (rows_of table) is

  flags_long : length flags ≡ length is
  flags_long = length-take-le (length is) (drop f.flags E) (omega (arith, length-drop f.flags E, p.ready.stands.behind, p.ready.stands.apart, p.ready.stands.long))

  threes : (k : ℕ) → k < length (rows_of table) → (get_or (rows_of table) k no_row).indices % 3 ≡ 0
  unfolding row_at
  threes = p.ready.threes

  -- the stitched body
  abbrev pub body : StitchedBody
  body = stitched_body sag (names key ps) (patches_of (rows_of table) ps ns is)

  -- all new vertices
  abbrev pub new : ℕ
  new = sum_of kept_in views

  -- the counts of the result
  pub vertices_are : v + new ≡ all_vertices (viewed_rows (rows_of table) views)
  vertices_are = omega (arith, vertices_viewed sag ps (names key ps) gs 0 flags (rows_of table) is, p.ready.vertices, p.v_is)

  pub indices_many : length is + 3 * new ≡ all_indices (viewed_rows (rows_of table) views)
  indices_many = omega (arith, indices_viewed sag ps (names key ps) gs 0 flags (rows_of table) is p.ready.all flags_long threes, p.ready.all)

  pub rows_many : length (rows_of table) ≡ length (viewed_rows (rows_of table) views)
  rows_many = sym (rows_length sag ps (names key ps) gs 0 flags (rows_of table) is)

  pub rows_there : map (λ q. q.row) body.patches ≡ viewed_rows (rows_of table) views
  rows_there = rows_are sag viewable

  module _ {X : List ℕ} {found kept : ℕ} (c : BodyCounted table ps is f.sag f.v f.list f.count f.at f.ts f.flags E X found kept) where
    -- no more than these were counted
    most : kept ≤ new
    most = omega (arith, c.most, ap (sum_of kept_in) views_are)

    -- all were, if the result is within the limits
    pub kept_is : v + kept ≤ 262144 → length is + 3 * kept ≤ 786432 → kept ≡ new
    kept_is a b = c.exact (omega (arith, p.v_is)) b ∙ ap (sum_of kept_in) views_are

    -- so the checks find what they find of all
    pub failing_same : (m' t' p' n' i' : ℕ) → first_failing (result_checks (v + kept) (length is + 3 * kept) m' t' p' n' i') ≡ first_failing (result_checks (v + new) (length is + 3 * new) m' t' p' n' i')
    failing_same m' t' p' n' i' =
        checks_same (v + kept) (length is + 3 * kept) (v + new) (length is + 3 * new) m' t' p' n' i' (omega (arith, most)) (omega (arith, most))
        (λ a b. ap (λ (k : ℕ). v + k) (kept_is a b)) (λ a b. ap (λ (k : ℕ). length is + 3 * k) (kept_is a b))

    -- so were all splits
    pub splits_is : v + kept ≤ 262144 → length is + 3 * kept ≤ 786432 → found ≡ body.splits
    splits_is a b = c.found_is (omega (arith, p.v_is)) b ∙ ap (sum_of found_in) views_are ∙ sym (splits_are sag viewable)

    same_views : views_of table ps is f.sag f.v f.list f.count f.flags X ≡ views
    same_views = c.views ∙ views_are

    pub kept_there : v + kept ≤ 262144 → length is + 3 * kept ≤ 786432 → sum_of kept_in (views_of table ps is f.sag f.v f.list f.count f.flags X) ≡ kept
    kept_there a b = ap (sum_of kept_in) same_views ∙ sym (kept_is a b)

    module _ (long : length X ≡ length E) (all : length ns ≡ 3 * v) {R : List ℕ} {P N : List Float} {I : List ℕ} where
      -- the body can be written
      pub writable : ResultFits (v + kept) (length is + 3 * kept) (length (rows_of table)) (length R) (length P) (length N) (length I)
          → BodyWritable table ps ns is f.sag f.beyond f.v f.list f.count f.at f.ts f.flags f.order f.boxes f.top X R P N I
      writable r =
          let there = kept_there r.vertices r.indices in
          record {
            body = ready_kept p.ready c.front c.rest long;
            all = omega (arith, all, p.v_is);
            small = omega (arith, there, r.vertices, p.v_is);
            small_indices = omega (arith, there, r.indices);
            room_rows = r.room_rows;
            room_positions = omega (arith, there, r.room_positions, p.v_is);
            room_normals = omega (arith, there, r.room_normals, p.v_is);
            room_indices = omega (arith, there, r.room_indices);
          }

      -- what was written is the definition's
      module _ {F R' : List ℕ} {P' N' : List Float} {I' : List ℕ} (d : BodyWritten table ps ns is f.sag f.v f.list f.count f.at f.ts f.flags X F R R' P P' N N' I I') where
        pub table_is : R' ≡ written (table_of (viewed_rows (rows_of table) views)) R
        table_is = d.rows_are ∙ ap (λ (vs : List (List View)). written (table_of (viewed_rows (rows_of table) vs)) R) same_views

        pub positions_is : P' ≡ written (flat_map (λ q. q.positions) body.patches) P
        positions_is = d.positions_are ∙ ap (λ (vs : List (List View)). written (viewed_positions ps (rows_of table) ps vs) P) same_views
            ∙ ap (λ (xs : List Float). written xs P) (sym (positions_are sag viewable))

        pub normals_is : N' ≡ written (flat_map (λ q. q.normals) body.patches) N
        normals_is = d.normals_are ∙ ap (λ (vs : List (List View)). written (viewed_normals ns 0 (rows_of table) ns vs) N) same_views
            ∙ ap (λ (xs : List Float). written xs N) (sym (normals_are sag viewable))

        pub indices_is : I' ≡ written (flat_map (λ q. q.indices) body.patches) I
        indices_is = d.indices_are ∙ ap (λ (vs : List (List View)). written (viewed_indices (rows_of table) vs) I) same_views ∙ ap (λ (xs : List ℕ). written xs I) (sym (indices_are sag viewable))

        pub rest_written : drop (16 * length is + 16 * m + 4 * v) F ≡ drop (16 * length is + 16 * m + 4 * v) W
        rest_written =
            rest_less (f.ts + 3 * f.count) (16 * length is + 16 * m + 4 * v) X F d.rest p.end
            ∙ rest_less (f.ts + 3 * f.count) (16 * length is + 16 * m + 4 * v) E X c.rest p.end
            ∙ p.rest

    pub rest_counted : drop (16 * length is + 16 * m + 4 * v) X ≡ drop (16 * length is + 16 * m + 4 * v) W
    rest_counted = rest_less (f.ts + 3 * f.count) (16 * length is + 16 * m + 4 * v) E X c.rest p.end ∙ p.rest
