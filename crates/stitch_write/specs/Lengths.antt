-- How many numbers the new vertices and the fan of a triangle are, and those of a row. Assumes nothing.
use Rattle.std.specs.Prelude.{◌≡◌, Bool, true, false, None, ◌&&◌, cond, ℕ, zero, suc, ◌+◌, ◌*◌, ◌%◌, ◌≤◌, length, get_or, eqb, Float}
use Rattle.std.proofs.Math.Path.{refl}
use mathlib.Core.List.{List, [], ◌∷◌, ◌++◌, flat_map}
use Rattle.std.proofs.Math.Option.{Option, none, some}
use native.Mathlib.Omega.{arith}
use Rattle.std.proofs.Common.{length-append}
use Rattle.std.specs.Float.Ieee.{lt}
use Rattle.float_steps.specs.Floats.{absolute}
use Rattle.lists.specs.Lists.{sum_of}
use Rattle.body_rows.specs.Body.{Triangle, triangles_of}
use Rattle.patch_geometry.specs.declared.Vec3.{Vec3}
use Rattle.patch_geometry.specs.Geometry.{sub, point_at}
use Rattle.stitch_projection.specs.declared.Hit.{Hit}
use Rattle.stitch_projection.specs.Projection.{project, mixed}
use Rattle.stitch_splits.specs.declared.sides.Sides.{Sides}
use Rattle.stitch_splits.specs.Splits.{near_last}
use Rattle.stitch_splits.specs.Entries.{Entry, after, insert_entry, drop_after, kept_entries}
use Rattle.stitch_splits.specs.declared.sides.Spot.{Spot}
use Rattle.stitch_splits.specs.Found.{found_only, nearer_spot, spot_of, with_spot, with_vertex, entries_on, triangle_kept}
use Rattle.stitch_splits.specs.Places.{OnEdges}
use Rattle.stitch_rings.specs.Rings.{coordinates_at, new_positions, new_normals, start_of, end_of, numbers_of, edges_of, ring_after, fan_go}
use Rattle.stitch_count.specs.Views.{sides_at, View, row_views, kept_in, row_positions, row_normals, row_indices}
use Rattle.stitch_rings.specs.FanLaws.{first_none}

-- ---- the edges of the entries

-- a place, if there is one, is on one of the edges
abbrev SpotLow : Option Spot → Type 0
SpotLow none = Unit {0}
SpotLow (some p) = p.e ≤ 2

-- so is the nearer one
nearer_low : (best : Option Spot) (e : ℕ) (h : Option Hit) → SpotLow best → e ≤ 2 → SpotLow (nearer_spot best e h)
nearer_low best e none b l = b
nearer_low none e (some h) b l = l
nearer_low (some p) e (some h) b l = go (lt h.distance p.distance)
  where
    go : (c : Bool) → SpotLow (cond c (some (record { e = e; t = h.t; distance = h.distance })) (some p))
    go true = l
    go false = b

-- so is the nearest of all
spot_low : (s : Sides) (r : Vec3) → SpotLow (spot_of s r)
unfolding spot_of
spot_low s r =
    let h₀ = project s.first.edge r in
    let h₁ = project s.second.edge r in
    let h₂ = project s.third.edge r in
    let b₀ = nearer_spot none 0 h₀ in
    let b₁ = nearer_spot b₀ 1 h₁ in
    nearer_low b₁ 2 h₂ (nearer_low b₀ 1 h₁ (nearer_low none 0 h₀ tt (omega arith)) (omega arith)) (omega arith)

-- entries with one more
insert_edges : (x : Entry) (C : List Entry) → x.e ≤ 2 → OnEdges C → OnEdges (insert_entry x C)
unfolding insert_entry
insert_edges x [] l o = (l, tt)
insert_edges x (y ∷ C) l o = go (after x y) (insert_edges x C l o.1)
  where
    go : (b : Bool) → OnEdges (insert_entry x C) → OnEdges (elim b [ true ↦ x ∷ y ∷ C | false ↦ y ∷ insert_entry x C ])
    go true i = (l, o)
    go false i = (o.0, i)

-- entries with a vertex, if it is found
vertex_edges : (sag : Float) (ps : List Float) (ns : List ℕ) (s : Sides) (e g : ℕ) (C : List Entry) → OnEdges C → OnEdges (with_vertex sag ps ns s e g C)
unfolding with_vertex
vertex_edges sag ps ns s e g C o = go (found_only sag s e (get_or ns g 0) (point_at ps g))
  where
    at : (p : Option Spot) → SpotLow p → OnEdges (with_spot g p C)
    at none l = o
    at (some p) l = insert_edges (record { e = p.e; t = p.t; vertex = g }) C l o

    go : (b : Bool) → OnEdges (elim b [ true ↦ with_spot g (spot_of s (point_at ps g)) C | false ↦ C ])
    go true = at (spot_of s (point_at ps g)) (spot_low s (point_at ps g))
    go false = o

-- entries with all vertices found on an edge
found_edges : (sag : Float) (ps : List Float) (ns : List ℕ) (s : Sides) (e : ℕ) (gs : List ℕ) (C : List Entry) → OnEdges C → OnEdges (entries_on sag ps ns s e gs C)
unfolding entries_on
found_edges sag ps ns s e [] C o = o
found_edges sag ps ns s e (g ∷ gs) C o = found_edges sag ps ns s e gs (with_vertex sag ps ns s e g C) (vertex_edges sag ps ns s e g C o)

-- entries without those close to the last kept
drop_edges : (last : Entry) (C : List Entry) → OnEdges C → OnEdges (drop_after last C)
unfolding drop_after
drop_edges last [] o = tt
drop_edges last (y ∷ C) o = go (eqb y.e last.e && lt (absolute (sub y.t last.t)) near_last) (drop_edges last C o.1) (drop_edges y C o.1)
  where
    go : (b : Bool) → OnEdges (drop_after last C) → OnEdges (drop_after y C) → OnEdges (elim b [ true ↦ drop_after last C | false ↦ y ∷ drop_after y C ])
    go true p q = p
    go false p q = (o.0, q)

-- the entries that are kept
dropped_edges : (C : List Entry) → OnEdges C → OnEdges (kept_entries C)
unfolding kept_entries
dropped_edges [] o = tt
dropped_edges (x ∷ C) o = (o.0, drop_edges x C o.1)

-- The entries that a triangle keeps are on its edges.
pub kept_edges : (sag : Float) (ps : List Float) (ns : List ℕ) (s : Sides) (gs : List ℕ) → OnEdges (triangle_kept sag ps ns s gs)
unfolding triangle_kept
kept_edges sag ps ns s gs =
    let C₀ = entries_on sag ps ns s 0 gs [] in
    let C₁ = entries_on sag ps ns s 1 gs C₀ in
    let C₂ = entries_on sag ps ns s 2 gs C₁ in
    dropped_edges C₂ (found_edges sag ps ns s 2 gs C₁ (found_edges sag ps ns s 1 gs C₀ (found_edges sag ps ns s 0 gs [] tt)))

-- ---- one triangle

-- The edges have a number for each entry.
pub numbers_length : (next : ℕ) (C : List Entry) → OnEdges C → length (numbers_of 0 next (edges_of C)) + length (numbers_of 1 next (edges_of C)) + length (numbers_of 2 next (edges_of C)) ≡ length C
unfolding numbers_of
numbers_length next [] o = refl
numbers_length next (x ∷ C) o = go x.e o.0 (numbers_of 0 (next + 1) (edges_of C)) (numbers_of 1 (next + 1) (edges_of C)) (numbers_of 2 (next + 1) (edges_of C)) (numbers_length (next + 1) C o.1)
  where
    go : (k : ℕ) → k ≤ 2 → (A B D : List ℕ) → length A + length B + length D ≡ length C
        → length (cond (eqb k 0) (next ∷ A) A) + length (cond (eqb k 1) (next ∷ B) B) + length (cond (eqb k 2) (next ∷ D) D) ≡ suc (length C)
    go zero l A B D h = omega arith
    go (suc zero) l A B D h = omega arith
    go (suc (suc zero)) l A B D h = omega arith
    go (suc (suc (suc k))) l A B D h = absurd (omega arith)

-- the ring behind corner a has two corners, and a vertex for each entry
pub ring_length : (b c next : ℕ) (C : List Entry) → OnEdges C → length (ring_after b c next C) ≡ length C + 2
ring_length b c next C o =
    let A = numbers_of 0 next (edges_of C) in
    let B = b ∷ numbers_of 1 next (edges_of C) in
    let D = c ∷ numbers_of 2 next (edges_of C) in
    omega (arith, length-append (A ++ B) D, length-append A B, numbers_length next C o)

-- The fan has a triangle for each entry, and one more.
pub fan_length : (a b c next : ℕ) (C : List Entry) → OnEdges C → length (fan_go a None (ring_after b c next C)) ≡ 3 * length C + 3
fan_length a b c next C o =
    let long = ring_length b c next C o in
    let some_there : 1 ≤ length (ring_after b c next C) = omega arith in
    omega (arith, first_none a (ring_after b c next C) some_there)

-- A new vertex has three coordinates.
pub positions_length : (ps : List Float) (C : List Entry) → length (new_positions ps C) ≡ 3 * length C
unfolding new_positions
positions_length ps [] = refl
positions_length ps (x ∷ C) = omega (arith, length-append (coordinates_at ps x.vertex) (new_positions ps C), positions_length ps C)

-- a mixed normal is three numbers
mixed_length : (na nb : Vec3) (t : Float) → length (mixed na nb t) ≡ 3
unfolding mixed
mixed_length na nb t = refl

-- So has its normal.
pub normals_length : (ns : List Float) (a b c : ℕ) (C : List Entry) → length (new_normals ns a b c C) ≡ 3 * length C
unfolding new_normals
normals_length ns a b c [] = refl
normals_length ns a b c (x ∷ C) =
    let na = point_at ns (start_of a b c x.e) in
    let nb = point_at ns (end_of a b c x.e) in
    omega (arith, length-append (mixed na nb x.t) (new_normals ns a b c C), mixed_length na nb x.t, normals_length ns a b c C)

-- ---- one row

-- each view's entries are on its triangle's edges
abbrev AllOn : List View → Type 0
AllOn [] = Unit {0}
AllOn (x ∷ xs) = OnEdges x.kept × AllOn xs

-- those of such views
on_length : (next : ℕ) (vs : List View) → AllOn vs → length (row_indices next vs) ≡ 3 * length vs + 3 * kept_in vs
unfolding row_indices kept_in sum_of
on_length next [] o = refl
on_length next (x ∷ vs) o =
    let f = fan_go x.a None (ring_after x.b x.c next x.kept) in
    let n = next + length x.kept in
    omega (arith, length-append f (row_indices n vs), fan_length x.a x.b x.c next x.kept o.0, on_length n vs o.1)

-- The positions of a row's new vertices are three numbers each.
pub row_positions_length : (ps : List Float) (vs : List View) → length (row_positions ps vs) ≡ 3 * kept_in vs
unfolding flat_map row_positions kept_in sum_of
row_positions_length ps [] = refl
row_positions_length ps (x ∷ vs) = omega (arith, length-append (new_positions ps x.kept) (row_positions ps vs), positions_length ps x.kept, row_positions_length ps vs)

-- So are their normals.
pub row_normals_length : (ns : List Float) (base : ℕ) (vs : List View) → length (row_normals ns base vs) ≡ 3 * kept_in vs
unfolding flat_map row_normals kept_in sum_of
row_normals_length ns base [] = refl
row_normals_length ns base (x ∷ vs) =
    let a = base + x.a in
    let b = base + x.b in
    let c = base + x.c in
    omega (arith, length-append (new_normals ns a b c x.kept) (row_normals ns base vs), normals_length ns a b c x.kept, row_normals_length ns base vs)

-- three indices make a triangle
pub triangles_length : (xs : List ℕ) → length xs % 3 ≡ 0 → 3 * length (triangles_of xs) ≡ length xs
unfolding triangles_of
triangles_length [] m = refl
triangles_length (a ∷ []) m = absurd (omega arith)
triangles_length (a ∷ b ∷ []) m = absurd (omega arith)
triangles_length (a ∷ b ∷ c ∷ xs) m = let h = triangles_length xs (omega arith) in omega arith

module _ (sag : Float) (ps : List Float) (nms gs : List ℕ) (base : ℕ) where
  -- a row's views are such
  views_on : (flags : List ℕ) (ts : List Triangle) → AllOn (row_views sag ps nms gs base flags ts)
  unfolding row_views
  views_on flags [] = tt
  views_on [] (t ∷ ts) = tt
  views_on (o ∷ []) (t ∷ ts) = tt
  views_on (o ∷ p ∷ []) (t ∷ ts) = tt
  views_on (o ∷ p ∷ q ∷ flags) (t ∷ ts) = (kept_edges sag ps nms (sides_at ps nms (base + t.a) (base + t.b) (base + t.c) o p q) gs, views_on flags ts)

  -- The indices of a row are three for each triangle that it had, and three for each new vertex.
  pub row_indices_length : (next : ℕ) (flags : List ℕ) (ts : List Triangle)
      → let vs = row_views sag ps nms gs base flags ts in
      length (row_indices next vs) ≡ 3 * length vs + 3 * kept_in vs
  row_indices_length next flags ts = on_length next (row_views sag ps nms gs base flags ts) (views_on flags ts)

  -- Each triangle has a view, if each has its three flags.
  pub views_length : (flags : List ℕ) (ts : List Triangle) → length flags ≡ 3 * length ts → length (row_views sag ps nms gs base flags ts) ≡ length ts
  unfolding row_views
  views_length flags [] e = refl
  views_length [] (t ∷ ts) e = absurd (omega arith)
  views_length (o ∷ []) (t ∷ ts) e = absurd (omega arith)
  views_length (o ∷ p ∷ []) (t ∷ ts) e = absurd (omega arith)
  views_length (o ∷ p ∷ q ∷ flags) (t ∷ ts) e = let h = views_length flags ts (omega arith) in omega arith

  -- The indices of a row are those that it had, and three for each new vertex.
  pub row_length : (next : ℕ) (flags xs : List ℕ) → length xs ≡ length flags → length xs % 3 ≡ 0
      → let vs = row_views sag ps nms gs base flags (triangles_of xs) in
      length (row_indices next vs) ≡ length xs + 3 * kept_in vs
  row_length next flags xs e m =
      let three = triangles_length xs m in
      omega (arith, row_indices_length next flags (triangles_of xs), views_length flags (triangles_of xs) (omega arith))
