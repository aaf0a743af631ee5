-- Laws of a body without a new vertex: what is written is the body itself. Assumes nothing.
use mathlib.Core.Path.{◌≡◌, refl, sym, ap, ◌∙◌}
use Rattle.std.specs.Prelude.{None}
use mathlib.Core.List.{List, [], ◌∷◌, ◌++◌, append-nil, flat_map}
use Prim.Native.Nat.{ℕ, suc, ◌+◌, ◌*◌, ◌%◌, ◌<◌}
use native.Mathlib.Omega.{arith}
use lib.ListN.{length, get_or, take, drop, length-drop, take-append-drop}
use lib.Seq.{length-take-le}
use lib.Ieee.{Float}
use Rattle.lists.specs.Lists.{sum_of}
use Rattle.body_rows.specs.Body.{Row, triangles_of, all_vertices, all_indices}
use Rattle.body_rows.specs.Rows.{no_row}
use Rattle.stitch_splits.specs.Entries.{Entry}
use Rattle.stitch_rings.specs.Rings.{new_positions, new_normals, numbers_of, ring_after, fan_go}
use Rattle.stitch_count.specs.Views.{View, view_of, row_views, body_views, kept_in, row_positions, row_normals, row_indices, viewed_rows, viewed_positions, viewed_normals, viewed_indices}

no_items : {A : Type 0} (xs : List A) → length xs ≡ 0 → xs ≡ []
no_items [] e = refl
no_items (x ∷ xs) e = absurd (omega arith)

-- ---- one row

-- it has no new positions
row_positions_none : (ps : List Float) (vs : List View) → kept_in vs ≡ 0 → row_positions ps vs ≡ []
unfolding row_positions flat_map kept_in sum_of new_positions
row_positions_none ps [] z = refl
row_positions_none ps (x ∷ vs) z = ap (λ (C : List Entry). new_positions ps C ++ row_positions ps vs) (no_items x.kept (omega arith)) ∙ row_positions_none ps vs (omega arith)

-- nor normals
row_normals_none : (ns : List Float) (base : ℕ) (vs : List View) → kept_in vs ≡ 0 → row_normals ns base vs ≡ []
unfolding row_normals flat_map kept_in sum_of new_normals
row_normals_none ns base [] z = refl
row_normals_none ns base (x ∷ vs) z =
    ap (λ (C : List Entry). new_normals ns (base + x.a) (base + x.b) (base + x.c) C ++ row_normals ns base vs) (no_items x.kept (omega arith))
    ∙ row_normals_none ns base vs (omega arith)

module _ (sag : Float) (ps : List Float) (nms gs : List ℕ) where
  -- its indices are those that it had
  row_indices_none : (base next : ℕ) (flags xs : List ℕ) → length xs ≡ length flags → length xs % 3 ≡ 0 → kept_in (row_views sag ps nms gs base flags (triangles_of xs)) ≡ 0
      → row_indices next (row_views sag ps nms gs base flags (triangles_of xs)) ≡ xs
  unfolding row_views triangles_of row_indices kept_in sum_of fan_go numbers_of
  row_indices_none base next flags [] e m z = refl
  row_indices_none base next flags (a ∷ []) e m z = absurd (omega arith)
  row_indices_none base next flags (a ∷ b ∷ []) e m z = absurd (omega arith)
  row_indices_none base next [] (a ∷ b ∷ c ∷ xs) e m z = absurd (omega arith)
  row_indices_none base next (o ∷ []) (a ∷ b ∷ c ∷ xs) e m z = absurd (omega arith)
  row_indices_none base next (o ∷ p ∷ []) (a ∷ b ∷ c ∷ xs) e m z = absurd (omega arith)
  row_indices_none base next (o ∷ p ∷ q ∷ flags) (a ∷ b ∷ c ∷ xs) e m z =
      let x = view_of sag ps nms gs base o p q (record { a = a; b = b; c = c }) in
      let rest = row_views sag ps nms gs base flags (triangles_of xs) in
      ap (λ (C : List Entry). fan_go a None (ring_after b c next C) ++ row_indices (next + length C) rest) (no_items x.kept (omega arith))
      ∙ ap (λ (ys : List ℕ). a ∷ b ∷ c ∷ ys) (row_indices_none base (next + 0) flags xs (omega arith) (omega arith) (omega arith))

-- ---- all rows

pub positions_none : (ps : List Float) (rows : List Row) (qs : List Float) (vss : List (List View)) → length vss ≡ length rows → length qs ≡ 3 * all_vertices rows → sum_of kept_in vss ≡ 0
    → viewed_positions ps rows qs vss ≡ qs
unfolding viewed_positions all_vertices sum_of
positions_none ps [] qs vss e f z = sym (no_items qs f)
positions_none ps (r ∷ rs) qs [] e f z = absurd (omega arith)
positions_none ps (r ∷ rs) qs (vs ∷ vss) e f z =
    let n = 3 * r.vertices in
    (λ i. (take n qs ++ row_positions_none ps vs (omega arith) i) ++ positions_none ps rs (drop n qs) vss (omega arith) (omega (arith, length-drop n qs)) (omega arith) i)
    ∙ ap (λ (xs : List Float). xs ++ drop n qs) (append-nil (take n qs))
    ∙ take-append-drop n qs

pub normals_none : (ns : List Float) (base : ℕ) (rows : List Row) (qs : List Float) (vss : List (List View)) → length vss ≡ length rows → length qs ≡ 3 * all_vertices rows → sum_of kept_in vss ≡ 0
    → viewed_normals ns base rows qs vss ≡ qs
unfolding viewed_normals all_vertices sum_of
normals_none ns base [] qs vss e f z = sym (no_items qs f)
normals_none ns base (r ∷ rs) qs [] e f z = absurd (omega arith)
normals_none ns base (r ∷ rs) qs (vs ∷ vss) e f z =
    let n = 3 * r.vertices in
    (λ i. (take n qs ++ row_normals_none ns base vs (omega arith) i) ++ normals_none ns (base + r.vertices) rs (drop n qs) vss (omega arith) (omega (arith, length-drop n qs)) (omega arith) i)
    ∙ ap (λ (xs : List Float). xs ++ drop n qs) (append-nil (take n qs))
    ∙ take-append-drop n qs

module _ (sag : Float) (ps : List Float) (nms gs : List ℕ) where
  pub indices_none : (base : ℕ) (flags : List ℕ) (rows : List Row) (is : List ℕ) → length is ≡ all_indices rows → length flags ≡ length is
      → ((k : ℕ) → k < length rows → (get_or rows k no_row).indices % 3 ≡ 0) → sum_of kept_in (body_views sag ps nms gs base flags rows is) ≡ 0
      → viewed_indices rows (body_views sag ps nms gs base flags rows is) ≡ is
  unfolding body_views viewed_indices all_indices sum_of
  indices_none base flags [] is all marked threes z = sym (no_items is all)
  indices_none base flags (r ∷ rs) is all marked threes z =
      let n = r.indices in
      let long : length (take n is) ≡ n = length-take-le n is (omega arith) in
      let as_long : length (take n flags) ≡ n = length-take-le n flags (omega arith) in
      let whole : length (take n is) % 3 ≡ 0 = ap (λ (m : ℕ). m % 3) long ∙ threes 0 (omega arith) in
      (λ i. row_indices_none sag ps nms gs base r.vertices (take n flags) (take n is) (omega arith) whole (omega arith) i
      ++ indices_none (base + r.vertices) (drop n flags) rs (drop n is) (omega (arith, length-drop n is)) (omega (arith, length-drop n is, length-drop n flags)) (λ k h. threes (suc k) (omega arith))
      (omega arith) i)
      ∙ take-append-drop n is

  pub rows_none : (base : ℕ) (flags : List ℕ) (rows : List Row) (is : List ℕ) → length is ≡ all_indices rows → length flags ≡ length is
      → ((k : ℕ) → k < length rows → (get_or rows k no_row).indices % 3 ≡ 0) → sum_of kept_in (body_views sag ps nms gs base flags rows is) ≡ 0
      → viewed_rows rows (body_views sag ps nms gs base flags rows is) ≡ rows
  unfolding body_views viewed_rows all_indices sum_of
  rows_none base flags [] is all marked threes z = refl
  rows_none base flags (r ∷ rs) is all marked threes z =
      let n = r.indices in
      let vs = row_views sag ps nms gs base (take n flags) (triangles_of (take n is)) in
      let long : length (take n is) ≡ n = length-take-le n is (omega arith) in
      let as_long : length (take n flags) ≡ n = length-take-le n flags (omega arith) in
      let whole : length (take n is) % 3 ≡ 0 = ap (λ (m : ℕ). m % 3) long ∙ threes 0 (omega arith) in
      let same : length (row_indices r.vertices vs) ≡ n = ap length (row_indices_none sag ps nms gs base r.vertices (take n flags) (take n is) (omega arith) whole (omega arith)) ∙ long in
      let many : r.vertices + kept_in vs ≡ r.vertices = omega arith in
      (λ i. record { shell = r.shell; face = r.face; outcome = r.outcome; vertices = many i; indices = same i; bin = r.bin }
      ∷ rows_none (base + r.vertices) (drop n flags) rs (drop n is) (omega (arith, length-drop n is)) (omega (arith, length-drop n is, length-drop n flags)) (λ k h. threes (suc k) (omega arith))
      (omega arith) i)
