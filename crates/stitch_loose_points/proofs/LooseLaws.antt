-- The gathered vertices are the definition's loose points. Assumes nothing.
use Rattle.std.specs.Prelude.{◌≡◌, Bool, ◌||◌, get_or, ltb, eqb}
use Rattle.std.proofs.Math.Path.{refl, ap}
use Rattle.std.proofs.Common.{◌∙◌}
use Rattle.std.proofs.Math.Bool.{true, false, cond}
use mathlib.Core.List.{List, [], ◌∷◌, ◌++◌, map, map-map, flat_map}
use Prim.Native.Nat.{ℕ, suc, ◌+◌, ◌*◌, ◌≤◌, ◌<◌}
use native.Mathlib.Omega.{arith}
use Rattle.std.proofs.Math.ListN.{length, take, drop, length-drop}
use Rattle.std.proofs.Math.Seq.{drop-drop, length-take-le}
use Rattle.std.specs.Float.Ieee.{Float}
use Rattle.lists.specs.Lists.{sum_of}
use Rattle.join_definition.specs.Join.{joined}
use Rattle.body_rows.specs.Body.{Row, triangles_of, rows_of, patches_of, all_indices}
use Rattle.edge_uses.specs.Edges.{Use, uses_from, is_open}
use Rattle.edge_uses.specs.RowUses.{Inside, inside_first, inside_rest}
use Rattle.stitch_loose_points.specs.Loose.{Loose, Facet, corner_of, facets_of, body_facets, insert_loose, insert_corner, insert_open, loose_from, facets_in, loose_in}
use Rattle.stitch_loose_points.specs.Listed.{loose_of, insert_vertex, insert_triangle, any_set, row_vertices, body_vertices}
use Rattle.stitch_loose_points.specs.Open.{flag_of}
use Rattle.stitch_loose_points.proofs.Insertions.{open_once}
use Rattle.stitch_loose_points.specs.Based.{flag, flags_drop, PointsFrom, NamesFrom, points_from, names_from}

-- one of three flags is set if one of the edges is open
any_open : (o p q : Bool) → (o || p || q) ≡ any_set (flag o) (flag p) (flag q)
any_open true p q = refl
any_open false true q = refl
any_open false false true = refl
any_open false false false = refl

-- the points of some triangles, and of those behind them
loose_append : (fs gs : List Facet) (ls : List Loose) → loose_from (fs ++ gs) ls ≡ loose_from gs (loose_from fs ls)
unfolding loose_from
loose_append [] gs ls = refl
loose_append (f ∷ fs) gs ls = loose_append fs gs (insert_open f f.c₂ (insert_open f f.c₁ (insert_open f f.c₀ ls)))

module _ (ps : List Float) (nms : List ℕ) where
  -- the loose points of vertices
  abbrev points : List ℕ → List Loose
  points R = map (loose_of ps nms) R

  -- inserting a vertex inserts its point
  vertex_point : (g : ℕ) (R : List ℕ) → insert_loose (loose_of ps nms g) (points R) ≡ points (insert_vertex nms g R)
  unfolding insert_loose insert_vertex
  vertex_point g [] = refl
  vertex_point g (x ∷ R) = go (ltb (get_or nms g 0) (get_or nms x 0)) (eqb (get_or nms g 0) (get_or nms x 0)) (vertex_point g R)
    where
      go : (b c : Bool) → insert_loose (loose_of ps nms g) (points R) ≡ points (insert_vertex nms g R)
          → cond b (loose_of ps nms g ∷ loose_of ps nms x ∷ points R) (cond c (loose_of ps nms g ∷ points R) (loose_of ps nms x ∷ insert_loose (loose_of ps nms g) (points R)))
          ≡ points (cond b (g ∷ x ∷ R) (cond c (g ∷ R) (x ∷ insert_vertex nms g R)))
      go true c e = refl
      go false true e = refl
      go false false e = ap (λ (l : List Loose). loose_of ps nms x ∷ l) e

  -- ---- one row

  module _ {base n : ℕ} {qs : List Float} {ms : List ℕ} (from : PointsFrom ps base n qs) (named : NamesFrom nms base ms) where
    -- inserting a corner inserts its vertex
    corner_vertex : (o : Bool) (i : ℕ) → i < n → (R : List ℕ) → insert_corner (corner_of qs ms o i) (points R) ≡ points (insert_vertex nms (base + i) R)
    unfolding insert_corner corner_of
    corner_vertex o i h R =
        (λ j. insert_loose (record { name = named.name i j; point = from.point i h j }) (points R)) ∙ vertex_point (base + i) R

    -- inserting the corners of a triangle inserts their vertices
    triangle_vertices : (o p q : Bool) (x y z : ℕ) → x < n → y < n → z < n → (R : List ℕ)
        → insert_corner (corner_of qs ms q z) (insert_corner (corner_of qs ms p y) (insert_corner (corner_of qs ms o x) (points R)))
        ≡ points (insert_triangle nms (base + x) (base + y) (base + z) R)
    triangle_vertices o p q x y z hx hy hz R =
        ap (λ (l : List Loose). insert_corner (corner_of qs ms q z) (insert_corner (corner_of qs ms p y) l)) (corner_vertex o x hx R)
        ∙ ap (insert_corner (corner_of qs ms q z)) (corner_vertex p y hy (insert_vertex nms (base + x) R))
        ∙ corner_vertex q z hz (insert_vertex nms (base + y) (insert_vertex nms (base + x) R))

    -- a triangle's loose points are its vertices', if one of its edges is open
    facet_vertices : (o p q : Bool) (x y z : ℕ) → x < n → y < n → z < n → (R : List ℕ)
        → let f : Facet = record { c₀ = corner_of qs ms o x; c₁ = corner_of qs ms p y; c₂ = corner_of qs ms q z } in
        insert_open f f.c₂ (insert_open f f.c₁ (insert_open f f.c₀ (points R)))
        ≡ points (cond (any_set (flag o) (flag p) (flag q)) (insert_triangle nms (base + x) (base + y) (base + z) R) R)
    unfolding corner_of
    facet_vertices o p q x y z hx hy hz R =
        open_once (record { c₀ = corner_of qs ms o x; c₁ = corner_of qs ms p y; c₂ = corner_of qs ms q z }) (points R)
        ∙ go (o || p || q) (triangle_vertices o p q x y z hx hy hz R)
        ∙ ap (λ (b : Bool). points (cond b (insert_triangle nms (base + x) (base + y) (base + z) R) R)) (any_open o p q)
      where
        go : (b : Bool) {T : List Loose} → T ≡ points (insert_triangle nms (base + x) (base + y) (base + z) R)
            → cond b T (points R) ≡ points (cond b (insert_triangle nms (base + x) (base + y) (base + z) R) R)
        go true e = e
        go false e = refl

    -- a row's loose points are its vertices'
    row_points : (areOpen : List Bool) (xs : List ℕ) → ((j : ℕ) → j < length xs → get_or xs j 0 < n) → (R : List ℕ)
        → loose_from (facets_of qs ms areOpen (triangles_of xs)) (points R) ≡ points (row_vertices nms base (take (length xs) (map flag areOpen)) (triangles_of xs) R)
    unfolding loose_from facets_of row_vertices triangles_of
    row_points areOpen [] b R = refl
    row_points areOpen (x ∷ []) b R = refl
    row_points areOpen (x ∷ y ∷ []) b R = refl
    row_points [] (x ∷ y ∷ z ∷ xs) b R = refl
    row_points (o ∷ []) (x ∷ y ∷ z ∷ xs) b R = refl
    row_points (o ∷ p ∷ []) (x ∷ y ∷ z ∷ xs) b R = refl
    row_points (o ∷ p ∷ q ∷ areOpen) (x ∷ y ∷ z ∷ xs) b R =
        ap (loose_from (facets_of qs ms areOpen (triangles_of xs))) (facet_vertices o p q x y z (b 0 (omega arith)) (b 1 (omega arith)) (b 2 (omega arith)) R)
        ∙ row_points areOpen xs (λ j h. b (suc (suc (suc j))) (omega arith)) (cond (any_set (flag o) (flag p) (flag q)) (insert_triangle nms (base + x) (base + y) (base + z) R) R)

  -- ---- all rows

  -- the loose points of all rows are their vertices'
  body_points : (rows : List Row) (base : ℕ) (ns : List Float) (is : List ℕ) (areOpen : List Bool) (R : List ℕ) → all_indices rows ≤ length is → Inside rows is
      → loose_from (flat_map (λ fs. fs) (body_facets (drop base nms) areOpen (patches_of rows (drop (3 * base) ps) ns is))) (points R)
      ≡ points (body_vertices nms base (map flag areOpen) rows is R)
  unfolding loose_from flat_map body_facets patches_of body_vertices all_indices sum_of
  body_points [] base ns is areOpen R l h = refl
  body_points (r ∷ rs) base ns is areOpen R l h =
      let v = r.vertices in
      let n = r.indices in
      let xs = take n is in
      let qs = take (3 * v) (drop (3 * base) ps) in
      let here = row_vertices nms base (take n (map flag areOpen)) (triangles_of xs) R in
      let rest : List ℕ → ℕ → List Float → List Facet = λ ms k ts. flat_map (λ fs. fs) (body_facets ms (drop k areOpen) (patches_of rs ts (drop (3 * v) ns) (drop n is))) in
      let long : length xs ≡ n = length-take-le n is (omega arith) in
      let three : 3 * base + 3 * v ≡ 3 * (base + v) = omega arith in
      let left = drop-drop (3 * v) (3 * base) ps ∙ ap (λ (k : ℕ). drop k ps) three in
      let row = row_points (points_from ps base v (drop (3 * base) ps) refl) (names_from nms base (drop base nms) refl) areOpen xs (inside_first r rs is h) R
      ∙ ap (λ (k : ℕ). points (row_vertices nms base (take k (map flag areOpen)) (triangles_of xs) R)) long in
      loose_append (facets_of qs (drop base nms) areOpen (triangles_of xs)) (rest (drop v (drop base nms)) (length xs) (drop (3 * v) (drop (3 * base) ps))) (points R)
      ∙ (λ j. loose_from (rest (drop-drop v base nms j) (long j) (left j)) (row j))
      ∙ body_points rs (base + v) (drop (3 * v) ns) (drop n is) (drop n areOpen) here (omega (arith, length-drop n is)) (inside_rest r rs is h)
      ∙ ap (λ (fs : List ℕ). points (body_vertices nms (base + v) fs rs (drop n is) here)) (flags_drop n areOpen)

-- The vertices gathered by the flags of a body's uses are those of its loose points.
pub loose_is : (table : List ℕ) (ps ns : List Float) (is nms : List ℕ) → length is ≡ all_indices (rows_of table) → Inside (rows_of table) is
    → let us : List Use = uses_from (λ r. 0) 0 (joined nms) (patches_of (rows_of table) ps ns is) in
    loose_in (facets_in nms (patches_of (rows_of table) ps ns is)) ≡ map (loose_of ps nms) (body_vertices nms 0 (map (flag_of us) us) (rows_of table) is [])
unfolding loose_in facets_in
loose_is table ps ns is nms e h =
    let us : List Use = uses_from (λ r. 0) 0 (joined nms) (patches_of (rows_of table) ps ns is) in
    body_points ps nms (rows_of table) 0 ns is (map (is_open us) us) [] (omega arith) h
    ∙ ap (λ (fs : List ℕ). map (loose_of ps nms) (body_vertices nms 0 fs (rows_of table) is [])) (map-map flag (is_open us) us)
