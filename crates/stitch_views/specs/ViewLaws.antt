-- The body that the code makes is the definition's stitched body. Assumes nothing.
use Rattle.std.specs.Prelude.{◌≡◌, None, Bool, false, ℕ, suc, ◌+◌, ◌*◌, ◌≤◌, ◌<◌, get_or, take, drop, Float}
use Rattle.std.proofs.Math.Path.{refl, ap}
use Rattle.std.proofs.Common.{sym, ◌∙◌, subst, arith, drop-drop}
use mathlib.Core.List.{List, [], ◌∷◌, ◌++◌, map, map-map, flat_map}
use Rattle.std.proofs.Math.ListN.{length, length-drop}
use Rattle.std.proofs.Math.Seq.{length-take-le}
use Rattle.lists.specs.Lists.{sum_of}
use Rattle.join_definition.specs.Join.{joined}
use Rattle.body_rows.specs.Body.{Row, Patch, triangles_of, rows_of, patches_of, all_indices}
use Rattle.edge_uses.specs.Edges.{Use, uses_from, is_open}
use Rattle.edge_uses.specs.RowUses.{Inside, inside_first, inside_rest}
use Rattle.stitch_loose_points.specs.Loose.{Loose, facets_of, body_facets, facets_in, loose_in}
use Rattle.stitch_loose_points.specs.Listed.{loose_of}
use Rattle.stitch_loose_points.specs.Open.{flag_of}
use Rattle.stitch_splits.specs.Splits.{SplitTriangle, split_triangle}
use Rattle.stitch_splits.specs.FoundPoints.{Distinct}
use Rattle.stitch_rings.specs.Rings.{fan_go, ring_after}
use Rattle.stitch_definition.specs.StitchedBody.{new_normal, coordinates, fanned, stitched_patch, stitched_patches, stitched_body_of, stitched_body}
use Rattle.stitch_count.specs.Views.{View, row_views, body_views, found_in, kept_in, row_positions, row_normals, row_indices, viewed_row, viewed_rows, viewed_positions, viewed_normals, viewed_indices}
use Rattle.stitch_views.specs.TriangleViews.{Seen, triangle_seen, seen_count, seen_positions, seen_normals, seen_fan}
use Rattle.stitch_loose_points.specs.Based.{flag, flags_drop, PointsFrom, NamesFrom, points_from, names_from}

-- ---- one row

-- each triangle of a row with its view
data AllSeen (ps : List Float) (n : ℕ) : List SplitTriangle → List View → Type 0 where
  none : AllSeen ps n [] []
  one : {s : SplitTriangle} {x : View} {ss : List SplitTriangle} {xs : List View} → Seen ps n s x → AllSeen ps n ss xs → AllSeen ps n (s ∷ ss) (x ∷ xs)

-- as many points split them
row_found : {ps : List Float} {n : ℕ} {ss : List SplitTriangle} {xs : List View} → AllSeen ps n ss xs → sum_of (λ c. c.found) ss ≡ found_in xs
unfolding sum_of found_in
row_found none = refl
row_found (one h r) = λ k. h.found k + row_found r k

-- they have as many new vertices
row_kept : {ps : List Float} {n : ℕ} {ss : List SplitTriangle} {xs : List View} → AllSeen ps n ss xs → sum_of (λ c. length c.kept) ss ≡ kept_in xs
unfolding sum_of kept_in
row_kept none = refl
row_kept (one h r) = λ k. seen_count h k + row_kept r k

-- at the same positions
row_positions_lem : {ps : List Float} {n : ℕ} {ss : List SplitTriangle} {xs : List View} → AllSeen ps n ss xs
    → flat_map (λ c. flat_map (λ k. coordinates k.point) c.kept) ss ≡ row_positions ps xs
unfolding flat_map row_positions
row_positions_lem none = refl
row_positions_lem (one h r) = λ k. seen_positions h k ++ row_positions_lem r k

-- with the same normals
row_normals_lem : {ps ns : List Float} {base n : ℕ} {ts : List Float} → PointsFrom ns base n ts → {ss : List SplitTriangle} {xs : List View} → AllSeen ps n ss xs
    → flat_map (λ c. flat_map (new_normal ts) c.kept) ss ≡ row_normals ns base xs
unfolding flat_map row_normals
row_normals_lem from none = refl
row_normals_lem from (one h r) = λ k. seen_normals h from k ++ row_normals_lem from r k

-- and the same indices
row_indices_lem : {ps : List Float} {n : ℕ} (next : ℕ) {ss : List SplitTriangle} {xs : List View} → AllSeen ps n ss xs → fanned next ss ≡ row_indices next xs
unfolding fanned row_indices
row_indices_lem next none = refl
row_indices_lem next (one {s} {x} {ss} {xs} h r) =
    (λ k. seen_fan h next k ++ fanned (next + seen_count h k) ss)
    ∙ ap (λ (l : List ℕ). fan_go x.a None (ring_after x.b x.c next x.kept) ++ l) (row_indices_lem (next + length x.kept) r)

-- a row's patch as the code makes it, of its own positions and normals and its views
abbrev viewed_patch : List Float → List Float → ℕ → Row → List Float → List Float → List View → Patch
viewed_patch ps ns base r qs ts vs = record { row = viewed_row r vs; positions = qs ++ row_positions ps vs; normals = ts ++ row_normals ns base vs; indices = row_indices r.vertices vs }

-- it is the definition's
patch_is : {ps ns : List Float} {base : ℕ} (r : Row) (qs ts : List Float) (is : List ℕ) → PointsFrom ns base r.vertices ts → {ss : List SplitTriangle} {vs : List View}
    → AllSeen ps r.vertices ss vs
    → stitched_patch (record { row = r; positions = qs; normals = ts; indices = is }) ss ≡ viewed_patch ps ns base r qs ts vs
unfolding stitched_patch
patch_is r qs ts is from seen =
    λ k.
    record {
      row = record { shell = r.shell; face = r.face; outcome = r.outcome; vertices = r.vertices + row_kept seen k; indices = length (row_indices_lem r.vertices seen k); bin = r.bin };
      positions = qs ++ row_positions_lem seen k;
      normals = ts ++ row_normals_lem from seen k;
      indices = row_indices_lem r.vertices seen k;
    }

module _ (sag : Float) {ps : List Float} {nms : List ℕ} {base n : ℕ} {qs : List Float} {ms : List ℕ} (from : PointsFrom ps base n qs) (named : NamesFrom nms base ms) (gs : List ℕ)
    (d : Distinct ps nms gs) where
  -- a row's triangles with their views
  row_seen : (areOpen : List Bool) (xs : List ℕ) → ((j : ℕ) → j < length xs → get_or xs j 0 < n)
      → AllSeen ps n (map (split_triangle sag (map (loose_of ps nms) gs)) (facets_of qs ms areOpen (triangles_of xs))) (row_views sag ps nms gs base (take (length xs) (map flag areOpen)) (triangles_of xs))
  unfolding facets_of row_views triangles_of
  row_seen areOpen [] b = none
  row_seen areOpen (x ∷ []) b = none
  row_seen areOpen (x ∷ y ∷ []) b = none
  row_seen [] (x ∷ y ∷ z ∷ xs) b = none
  row_seen (o ∷ []) (x ∷ y ∷ z ∷ xs) b = none
  row_seen (o ∷ p ∷ []) (x ∷ y ∷ z ∷ xs) b = none
  row_seen (o ∷ p ∷ q ∷ areOpen) (x ∷ y ∷ z ∷ xs) b =
      one
      (triangle_seen from named sag gs d o p q (record { a = x; b = y; c = z }) (record { low_a = b 0 (omega arith); low_b = b 1 (omega arith); low_c = b 2 (omega arith) }))
      (row_seen areOpen xs (λ j h. b (suc (suc (suc j))) (omega arith)))

-- ---- where a row begins

-- the coordinates of the vertices behind a row's
points_behind : (ps : List Float) (base v : ℕ) (qs : List Float) → qs ≡ drop (3 * base) ps → drop (3 * v) qs ≡ drop (3 * (base + v)) ps
points_behind ps base v qs e =
    let three : 3 * base + 3 * v ≡ 3 * (base + v) = omega arith in
    ap (drop (3 * v)) e ∙ drop-drop (3 * v) (3 * base) ps ∙ ap (λ (k : ℕ). drop k ps) three

-- rows whose vertices start at `base`: what is left of positions, normals and names, and the flags of the edges that are left
record Begun (ps ns : List Float) (nms : List ℕ) (base : ℕ) (qs ts : List Float) (ms : List ℕ) (areOpen : List Bool) (fs : List ℕ) : Type 0 where
  positions : qs ≡ drop (3 * base) ps
  normals : ts ≡ drop (3 * base) ns
  names : ms ≡ drop base nms
  flags : fs ≡ map flag areOpen

-- so are the rows behind the first
begun_rest : {ps ns : List Float} {nms : List ℕ} {base : ℕ} {qs ts : List Float} {ms : List ℕ} {areOpen : List Bool} {fs : List ℕ} → Begun ps ns nms base qs ts ms areOpen fs → (v n k : ℕ) → k ≡ n
    → Begun ps ns nms (base + v) (drop (3 * v) qs) (drop (3 * v) ts) (drop v ms) (drop k areOpen) (drop n fs)
begun_rest {ps} {ns} {nms} {base} {qs} {ts} {ms} {areOpen} {fs} h v n k e =
    record {
      positions = points_behind ps base v qs h.positions;
      normals = points_behind ns base v ts h.normals;
      names = ap (drop v) h.names ∙ drop-drop v base nms;
      flags = ap (drop n) h.flags ∙ sym (flags_drop n areOpen) ∙ ap (λ (m : ℕ). map flag (drop m areOpen)) (sym e);
    }

-- ---- all rows

-- the patches as the code makes them: `qs` and `ts` begin with the first row's own positions and normals
viewed_patches : List Float → List Float → ℕ → List Row → List Float → List Float → List (List View) → List Patch
viewed_patches ps ns base [] qs ts vss = []
viewed_patches ps ns base (r ∷ rs) qs ts [] = []
viewed_patches ps ns base (r ∷ rs) qs ts (vs ∷ vss) =
    viewed_patch ps ns base r (take (3 * r.vertices) qs) (take (3 * r.vertices) ts) vs ∷ viewed_patches ps ns (base + r.vertices) rs (drop (3 * r.vertices) qs) (drop (3 * r.vertices) ts) vss

module _ (ps ns : List Float) where
  -- their rows
  patches_rows : (base : ℕ) (rows : List Row) (qs ts : List Float) (vss : List (List View)) → map (λ p. p.row) (viewed_patches ps ns base rows qs ts vss) ≡ viewed_rows rows vss
  unfolding viewed_patches viewed_rows
  patches_rows base [] qs ts vss = refl
  patches_rows base (r ∷ rs) qs ts [] = refl
  patches_rows base (r ∷ rs) qs ts (vs ∷ vss) =
      ap (λ (l : List Row). viewed_row r vs ∷ l) (patches_rows (base + r.vertices) rs (drop (3 * r.vertices) qs) (drop (3 * r.vertices) ts) vss)

  -- their positions
  patches_positions : (base : ℕ) (rows : List Row) (qs ts : List Float) (vss : List (List View))
      → flat_map (λ p. p.positions) (viewed_patches ps ns base rows qs ts vss) ≡ viewed_positions ps rows qs vss
  unfolding flat_map viewed_patches viewed_positions
  patches_positions base [] qs ts vss = refl
  patches_positions base (r ∷ rs) qs ts [] = refl
  patches_positions base (r ∷ rs) qs ts (vs ∷ vss) =
      ap (λ (l : List Float). (take (3 * r.vertices) qs ++ row_positions ps vs) ++ l) (patches_positions (base + r.vertices) rs (drop (3 * r.vertices) qs) (drop (3 * r.vertices) ts) vss)

  -- their normals
  patches_normals : (base : ℕ) (rows : List Row) (qs ts : List Float) (vss : List (List View)) → flat_map (λ p. p.normals) (viewed_patches ps ns base rows qs ts vss) ≡ viewed_normals ns base rows ts vss
  unfolding flat_map viewed_patches viewed_normals
  patches_normals base [] qs ts vss = refl
  patches_normals base (r ∷ rs) qs ts [] = refl
  patches_normals base (r ∷ rs) qs ts (vs ∷ vss) =
      ap (λ (l : List Float). (take (3 * r.vertices) ts ++ row_normals ns base vs) ++ l) (patches_normals (base + r.vertices) rs (drop (3 * r.vertices) qs) (drop (3 * r.vertices) ts) vss)

  -- their indices
  patches_indices : (base : ℕ) (rows : List Row) (qs ts : List Float) (vss : List (List View)) → flat_map (λ p. p.indices) (viewed_patches ps ns base rows qs ts vss) ≡ viewed_indices rows vss
  unfolding flat_map viewed_patches viewed_indices
  patches_indices base [] qs ts vss = refl
  patches_indices base (r ∷ rs) qs ts [] = refl
  patches_indices base (r ∷ rs) qs ts (vs ∷ vss) =
      ap (λ (l : List ℕ). row_indices r.vertices vs ++ l) (patches_indices (base + r.vertices) rs (drop (3 * r.vertices) qs) (drop (3 * r.vertices) ts) vss)

module _ (sag : Float) (ps ns : List Float) (nms gs : List ℕ) (d : Distinct ps nms gs) where
  -- the triangles of the first row with their views
  first_seen : {base : ℕ} {qs ts : List Float} {ms : List ℕ} {areOpen : List Bool} {fs : List ℕ} (r : Row) (rs : List Row) (is : List ℕ)
      → Begun ps ns nms base qs ts ms areOpen fs → length (take r.indices is) ≡ r.indices → Inside (r ∷ rs) is
      → AllSeen ps r.vertices (map (split_triangle sag (map (loose_of ps nms) gs)) (facets_of (take (3 * r.vertices) qs) ms areOpen (triangles_of (take r.indices is))))
      (row_views sag ps nms gs base (take r.indices fs) (triangles_of (take r.indices is)))
  first_seen {base} {qs} {ts} {ms} {areOpen} {fs} r rs is g long h =
      let xs = take r.indices is in
      let e : take (length xs) (map flag areOpen) ≡ take r.indices fs = λ k. take (long k) (sym g.flags k) in
      subst
      (λ (l : List ℕ). AllSeen ps r.vertices (map (split_triangle sag (map (loose_of ps nms) gs)) (facets_of (take (3 * r.vertices) qs) ms areOpen (triangles_of xs)))
      (row_views sag ps nms gs base l (triangles_of xs)))
      e
      (row_seen sag (points_from ps base r.vertices qs g.positions) (names_from nms base ms g.names) gs d areOpen xs (inside_first r rs is h))

  -- the patches that the code makes are the definition's
  body_patches : {base : ℕ} {qs ts : List Float} {ms : List ℕ} {areOpen : List Bool} {fs : List ℕ} (rows : List Row) (is : List ℕ)
      → Begun ps ns nms base qs ts ms areOpen fs → all_indices rows ≤ length is → Inside rows is
      → stitched_patches (patches_of rows qs ts is) (map (λ xs. map (split_triangle sag (map (loose_of ps nms) gs)) xs) (body_facets ms areOpen (patches_of rows qs ts is)))
      ≡ viewed_patches ps ns base rows qs ts (body_views sag ps nms gs base fs rows is)
  unfolding stitched_patches patches_of body_facets viewed_patches body_views all_indices sum_of
  body_patches [] is g l h = refl
  body_patches {base} {qs} {ts} {ms} {areOpen} {fs} (r ∷ rs) is g l h =
      let v = r.vertices in
      let n = r.indices in
      let long : length (take n is) ≡ n = length-take-le n is (omega arith) in
      let here = patch_is {ns = ns} {base = base} r (take (3 * v) qs) (take (3 * v) ts) (take n is) (points_from ns base v ts g.normals) (first_seen r rs is g long h) in
      let rest = body_patches {base = base + r.vertices} rs (drop n is) (begun_rest g v n (length (take n is)) long) (omega (arith, length-drop n is)) (inside_rest r rs is h) in
      λ k. here k ∷ rest k

  -- as many points split the triangles
  body_found : {base : ℕ} {qs ts : List Float} {ms : List ℕ} {areOpen : List Bool} {fs : List ℕ} (rows : List Row) (is : List ℕ)
      → Begun ps ns nms base qs ts ms areOpen fs → all_indices rows ≤ length is → Inside rows is
      → sum_of (λ cs. sum_of (λ c. c.found) cs) (map (λ xs. map (split_triangle sag (map (loose_of ps nms) gs)) xs) (body_facets ms areOpen (patches_of rows qs ts is)))
      ≡ sum_of found_in (body_views sag ps nms gs base fs rows is)
  unfolding patches_of body_facets body_views all_indices sum_of
  body_found [] is g l h = refl
  body_found {base} {qs} {ts} {ms} {areOpen} {fs} (r ∷ rs) is g l h =
      let v = r.vertices in
      let n = r.indices in
      let long : length (take n is) ≡ n = length-take-le n is (omega arith) in
      let here = row_found (first_seen r rs is g long h) in
      let rest = body_found {base = base + r.vertices} rs (drop n is) (begun_rest g v n (length (take n is)) long) (omega (arith, length-drop n is)) (inside_rest r rs is h) in
      λ k. here k + rest k

-- ---- the laws

-- what the laws ask: the indices are of the rows' vertices, gs are the loose vertices, each point once, and each use has its flag
pub record Viewable (table : List ℕ) (ps ns : List Float) (is nms gs flags : List ℕ) : Type 0 where
  pub all : length is ≡ all_indices (rows_of table)
  pub inside : Inside (rows_of table) is
  pub loose : loose_in (facets_in nms (patches_of (rows_of table) ps ns is)) ≡ map (loose_of ps nms) gs
  pub distinct : Distinct ps nms gs
  pub marked : let us : List Use = uses_from (λ r. 0) 0 (joined nms) (patches_of (rows_of table) ps ns is) in flags ≡ map (flag_of us) us

module _ (sag : Float) {table : List ℕ} {ps ns : List Float} {is nms gs flags : List ℕ} (h : Viewable table ps ns is nms gs flags) where
  -- the body begins with its first row
  begun : let us : List Use = uses_from (λ r. 0) 0 (joined nms) (patches_of (rows_of table) ps ns is) in Begun ps ns nms 0 ps ns nms (map (is_open us) us) flags
  begun =
      let us : List Use = uses_from (λ r. 0) 0 (joined nms) (patches_of (rows_of table) ps ns is) in
      record { positions = refl; normals = refl; names = refl; flags = h.marked ∙ sym (map-map flag (is_open us) us) }

  -- the patches
  patches_are : (stitched_body sag nms (patches_of (rows_of table) ps ns is)).patches ≡ viewed_patches ps ns 0 (rows_of table) ps ns (body_views sag ps nms gs 0 flags (rows_of table) is)
  unfolding stitched_body stitched_body_of facets_in
  patches_are =
      let patches = patches_of (rows_of table) ps ns is in
      ap (λ (ls : List Loose). stitched_patches patches (map (λ xs. map (split_triangle sag ls) xs) (facets_in nms patches))) h.loose
      ∙ body_patches sag ps ns nms gs h.distinct (rows_of table) is begun (omega arith) h.inside

  -- The stitched body's rows are those that the code makes.
  pub rows_are : map (λ p. p.row) (stitched_body sag nms (patches_of (rows_of table) ps ns is)).patches ≡ viewed_rows (rows_of table) (body_views sag ps nms gs 0 flags (rows_of table) is)
  rows_are = ap (map (λ (p : Patch). p.row)) patches_are ∙ patches_rows ps ns 0 (rows_of table) ps ns (body_views sag ps nms gs 0 flags (rows_of table) is)

  -- So are its positions.
  pub positions_are : flat_map (λ p. p.positions) (stitched_body sag nms (patches_of (rows_of table) ps ns is)).patches
      ≡ viewed_positions ps (rows_of table) ps (body_views sag ps nms gs 0 flags (rows_of table) is)
  positions_are = ap (flat_map (λ (p : Patch). p.positions)) patches_are ∙ patches_positions ps ns 0 (rows_of table) ps ns (body_views sag ps nms gs 0 flags (rows_of table) is)

  -- So are its normals.
  pub normals_are : flat_map (λ p. p.normals) (stitched_body sag nms (patches_of (rows_of table) ps ns is)).patches
      ≡ viewed_normals ns 0 (rows_of table) ns (body_views sag ps nms gs 0 flags (rows_of table) is)
  normals_are = ap (flat_map (λ (p : Patch). p.normals)) patches_are ∙ patches_normals ps ns 0 (rows_of table) ps ns (body_views sag ps nms gs 0 flags (rows_of table) is)

  -- So are its indices.
  pub indices_are : flat_map (λ p. p.indices) (stitched_body sag nms (patches_of (rows_of table) ps ns is)).patches ≡ viewed_indices (rows_of table) (body_views sag ps nms gs 0 flags (rows_of table) is)
  indices_are = ap (flat_map (λ (p : Patch). p.indices)) patches_are ∙ patches_indices ps ns 0 (rows_of table) ps ns (body_views sag ps nms gs 0 flags (rows_of table) is)

  -- Its splits are the points that the code counts.
  pub splits_are : (stitched_body sag nms (patches_of (rows_of table) ps ns is)).splits ≡ sum_of found_in (body_views sag ps nms gs 0 flags (rows_of table) is)
  unfolding stitched_body stitched_body_of facets_in
  splits_are =
      let patches = patches_of (rows_of table) ps ns is in
      ap (λ (ls : List Loose). sum_of (λ cs. sum_of (λ c. c.found) cs) (map (λ xs. map (split_triangle sag ls) xs) (facets_in nms patches))) h.loose
      ∙ body_found sag ps ns nms gs h.distinct (rows_of table) is begun (omega arith) h.inside
