-- How many rows, vertices and indices the stitched body has, and how long its slices are. Assumes nothing.
use Rattle.std.specs.Prelude.{◌≡◌, get_or, drop, Float}
use Rattle.std.proofs.Math.Path.{refl, ap}
use Rattle.std.proofs.Common.{◌∙◌, arith}
use mathlib.Core.List.{List, [], ◌∷◌, ◌++◌}
use Prim.Native.Nat.{ℕ, suc, ◌+◌, ◌*◌, ◌%◌, ◌<◌}
use Rattle.std.proofs.Math.ListN.{length, take, length-append, length-drop}
use Rattle.std.proofs.Math.Seq.{length-take-le}
use Rattle.lists.specs.Lists.{sum_of}
use Rattle.body_rows.specs.Body.{Row, triangles_of, all_vertices, all_indices}
use Rattle.body_rows.specs.Rows.{no_row}
use Rattle.stitch_count.specs.Views.{View, row_views, body_views, kept_in, row_positions, row_normals, row_indices, viewed_rows, viewed_positions, viewed_normals, viewed_indices}
use Rattle.stitch_write.specs.Lengths.{row_positions_length, row_normals_length, row_length}
use Rattle.body_rows.specs.Patches.{left_length}

-- ---- any views, one list for each row

-- the rows are as many
rows_many : (rows : List Row) (vss : List (List View)) → length vss ≡ length rows → length (viewed_rows rows vss) ≡ length rows
unfolding viewed_rows
rows_many [] vss e = refl
rows_many (r ∷ rs) [] e = absurd (omega arith)
rows_many (r ∷ rs) (vs ∷ vss) e = let h = rows_many rs vss (omega arith) in omega arith

-- their vertices are those that they had and the new ones
rows_vertices : (rows : List Row) (vss : List (List View)) → length vss ≡ length rows → all_vertices (viewed_rows rows vss) ≡ all_vertices rows + sum_of kept_in vss
unfolding viewed_rows all_vertices sum_of
rows_vertices [] [] e = refl
rows_vertices [] (vs ∷ vss) e = absurd (omega arith)
rows_vertices (r ∷ rs) [] e = absurd (omega arith)
rows_vertices (r ∷ rs) (vs ∷ vss) e = let h = rows_vertices rs vss (omega arith) in omega arith

-- their indices are all that are written
rows_indices : (rows : List Row) (vss : List (List View)) → all_indices (viewed_rows rows vss) ≡ length (viewed_indices rows vss)
unfolding viewed_rows viewed_indices all_indices sum_of
rows_indices [] vss = refl
rows_indices (r ∷ rs) [] = refl
rows_indices (r ∷ rs) (vs ∷ vss) = omega (arith, length-append (row_indices r.vertices vs) (viewed_indices rs vss), rows_indices rs vss)

-- what the first row has of it
slice_first : (v w : ℕ) (qs : List Float) → length qs ≡ 3 * (v + w) → length (take (3 * v) qs) ≡ 3 * v
slice_first v w qs e = length-take-le (3 * v) qs (omega arith)

-- the positions are three numbers for each vertex
positions_all : (ps : List Float) (rows : List Row) (qs : List Float) (vss : List (List View)) → length vss ≡ length rows → length qs ≡ 3 * all_vertices rows
    → length (viewed_positions ps rows qs vss) ≡ 3 * (all_vertices rows + sum_of kept_in vss)
unfolding viewed_positions all_vertices sum_of
positions_all ps [] qs [] e f = refl
positions_all ps [] qs (vs ∷ vss) e f = absurd (omega arith)
positions_all ps (r ∷ rs) qs [] e f = absurd (omega arith)
positions_all ps (r ∷ rs) qs (vs ∷ vss) e f =
    let own = take (3 * r.vertices) qs in
    let left = drop (3 * r.vertices) qs in
    let h = positions_all ps rs left vss (omega arith) (left_length r.vertices (all_vertices rs) qs f) in
    omega (
      arith,
      length-append (own ++ row_positions ps vs) (viewed_positions ps rs left vss),
      length-append own (row_positions ps vs),
      slice_first r.vertices (all_vertices rs) qs f,
      row_positions_length ps vs,
    )

-- so are the normals
normals_all : (ns : List Float) (base : ℕ) (rows : List Row) (qs : List Float) (vss : List (List View)) → length vss ≡ length rows → length qs ≡ 3 * all_vertices rows
    → length (viewed_normals ns base rows qs vss) ≡ 3 * (all_vertices rows + sum_of kept_in vss)
unfolding viewed_normals all_vertices sum_of
normals_all ns base [] qs [] e f = refl
normals_all ns base [] qs (vs ∷ vss) e f = absurd (omega arith)
normals_all ns base (r ∷ rs) qs [] e f = absurd (omega arith)
normals_all ns base (r ∷ rs) qs (vs ∷ vss) e f =
    let own = take (3 * r.vertices) qs in
    let left = drop (3 * r.vertices) qs in
    let h = normals_all ns (base + r.vertices) rs left vss (omega arith) (left_length r.vertices (all_vertices rs) qs f) in
    omega (
      arith,
      length-append (own ++ row_normals ns base vs) (viewed_normals ns (base + r.vertices) rs left vss),
      length-append own (row_normals ns base vs),
      slice_first r.vertices (all_vertices rs) qs f,
      row_normals_length ns base vs,
    )

-- ---- the laws

module _ (sag : Float) (ps : List Float) (nms gs : List ℕ) where
  -- Each row has its views.
  pub views_many : (base : ℕ) (flags : List ℕ) (rows : List Row) (is : List ℕ) → length (body_views sag ps nms gs base flags rows is) ≡ length rows
  unfolding body_views
  views_many base flags [] is = refl
  views_many base flags (r ∷ rs) is = ap suc (views_many (base + r.vertices) (drop r.indices flags) rs (drop r.indices is))

  -- The stitched body has as many rows.
  pub rows_length : (base : ℕ) (flags : List ℕ) (rows : List Row) (is : List ℕ) → length (viewed_rows rows (body_views sag ps nms gs base flags rows is)) ≡ length rows
  rows_length base flags rows is = rows_many rows (body_views sag ps nms gs base flags rows is) (views_many base flags rows is)

  -- Its vertices are those that there were and the new ones.
  pub vertices_viewed : (base : ℕ) (flags : List ℕ) (rows : List Row) (is : List ℕ)
      → let views = body_views sag ps nms gs base flags rows is in
      all_vertices (viewed_rows rows views) ≡ all_vertices rows + sum_of kept_in views
  vertices_viewed base flags rows is = rows_vertices rows (body_views sag ps nms gs base flags rows is) (views_many base flags rows is)

  -- Its positions are three numbers for each of them.
  pub viewed_positions_length : (base : ℕ) (flags : List ℕ) (rows : List Row) (is : List ℕ) (xs qs : List Float) → length qs ≡ 3 * all_vertices rows
      → let views = body_views sag ps nms gs base flags rows is in
      length (viewed_positions xs rows qs views) ≡ 3 * (all_vertices rows + sum_of kept_in views)
  viewed_positions_length base flags rows is xs qs e = positions_all xs rows qs (body_views sag ps nms gs base flags rows is) (views_many base flags rows is) e

  -- Its indices are those that there were, and three for each new vertex.
  pub viewed_indices_length : (base : ℕ) (flags : List ℕ) (rows : List Row) (is : List ℕ) → length is ≡ all_indices rows → length flags ≡ length is
      → ((k : ℕ) → k < length rows → (get_or rows k no_row).indices % 3 ≡ 0)
      → let views = body_views sag ps nms gs base flags rows is in
      length (viewed_indices rows views) ≡ all_indices rows + 3 * sum_of kept_in views
  unfolding body_views viewed_indices all_indices sum_of
  viewed_indices_length base flags [] is all marked threes = refl
  viewed_indices_length base flags (r ∷ rs) is all marked threes =
      let n = r.indices in
      let xs = take n is in
      let fs = take n flags in
      let vs = row_views sag ps nms gs base fs (triangles_of xs) in
      let vss = body_views sag ps nms gs (base + r.vertices) (drop n flags) rs (drop n is) in
      let long : length xs ≡ n = length-take-le n is (omega arith) in
      let as_long : length fs ≡ n = length-take-le n flags (omega arith) in
      let whole : length xs % 3 ≡ 0 = ap (λ (m : ℕ). m % 3) long ∙ threes 0 (omega arith) in
      let here = row_length sag ps nms gs base r.vertices fs xs (omega arith) whole in
      let rest = viewed_indices_length (base + r.vertices) (drop n flags) rs (drop n is) (omega (arith, length-drop n is)) (omega (arith, length-drop n is, length-drop n flags))
      (λ k h. threes (suc k) (omega arith)) in
      omega (arith, length-append (row_indices r.vertices vs) (viewed_indices rs vss))

  -- So its rows say.
  pub indices_viewed : (base : ℕ) (flags : List ℕ) (rows : List Row) (is : List ℕ) → length is ≡ all_indices rows → length flags ≡ length is
      → ((k : ℕ) → k < length rows → (get_or rows k no_row).indices % 3 ≡ 0)
      → let views = body_views sag ps nms gs base flags rows is in
      all_indices (viewed_rows rows views) ≡ all_indices rows + 3 * sum_of kept_in views
  indices_viewed base flags rows is all marked threes =
      rows_indices rows (body_views sag ps nms gs base flags rows is) ∙ viewed_indices_length base flags rows is all marked threes
