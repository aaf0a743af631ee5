-- The stitched body as the code makes it: each triangle with the entries that it keeps, and what they add to rows and slices. Assumes nothing.
use Rattle.std.specs.Prelude.{None, false, not, ℕ, ◌+◌, ◌*◌, length, get_or, take, drop, eqb, Float}
use mathlib.Core.List.{List, [], ◌∷◌, ◌++◌, flat_map}
use Rattle.lists.specs.Lists.{sum_of}
use Rattle.body_rows.specs.Body.{Row, Triangle, triangles_of}
use Rattle.patch_geometry.specs.Geometry.{point_at}
use Rattle.stitch_projection.specs.Projection.{edge_of}
use Rattle.stitch_splits.specs.declared.sides.TriangleEdge.{TriangleEdge}
use Rattle.stitch_splits.specs.declared.sides.Sides.{Sides}
use Rattle.stitch_splits.specs.Entries.{Entry}
use Rattle.stitch_splits.specs.Found.{triangle_found, triangle_kept}
use Rattle.stitch_rings.specs.Rings.{new_positions, new_normals, ring_after, fan_go}

-- the edge between two vertices of the body, open if the flag o is set
abbrev pub edge_at : List Float → List ℕ → ℕ → ℕ → ℕ → TriangleEdge
edge_at ps ns g h o = record { edge = edge_of (point_at ps g) (point_at ps h); start = get_or ns g 0; end = get_or ns h 0; is_open = not (eqb o 0) }

-- the sides of a triangle of vertices a, b, c of the body, with the flags o, p, q
abbrev pub sides_at : List Float → List ℕ → ℕ → ℕ → ℕ → ℕ → ℕ → ℕ → Sides
sides_at ps ns a b c o p q = record { first = edge_at ps ns a b o; second = edge_at ps ns b c p; third = edge_at ps ns c a q }

-- a triangle's corners within its patch, how many points split it, and the entries that it keeps
pub record View : Type 0 where
  pub a : ℕ
  pub b : ℕ
  pub c : ℕ
  pub found : ℕ
  pub kept : List Entry

-- the view of a triangle of a patch whose vertices start at `base`, among the loose vertices gs
abbrev pub view_of : Float → List Float → List ℕ → List ℕ → ℕ → ℕ → ℕ → ℕ → Triangle → View
view_of sag ps ns gs base o p q t =
    let s = sides_at ps ns (base + t.a) (base + t.b) (base + t.c) o p q in
    record { a = t.a; b = t.b; c = t.c; found = triangle_found sag ps ns s gs; kept = triangle_kept sag ps ns s gs }

-- the views of a row's triangles: `flags` begins with three for each
unfoldable pub row_views : Float → List Float → List ℕ → List ℕ → ℕ → List ℕ → List Triangle → List View
row_views sag ps ns gs base flags [] = []
row_views sag ps ns gs base [] (t ∷ ts) = []
row_views sag ps ns gs base (o ∷ []) (t ∷ ts) = []
row_views sag ps ns gs base (o ∷ p ∷ []) (t ∷ ts) = []
row_views sag ps ns gs base (o ∷ p ∷ q ∷ flags) (t ∷ ts) = view_of sag ps ns gs base o p q t ∷ row_views sag ps ns gs base flags ts

-- those of all rows: `flags` and `is` begin with the first row's
unfoldable pub body_views : Float → List Float → List ℕ → List ℕ → ℕ → List ℕ → List Row → List ℕ → List (List View)
body_views sag ps ns gs base flags [] is = []
body_views sag ps ns gs base flags (r ∷ rs) is =
    row_views sag ps ns gs base (take r.indices flags) (triangles_of (take r.indices is))
    ∷ body_views sag ps ns gs (base + r.vertices) (drop r.indices flags) rs (drop r.indices is)

-- how many points split the triangles of a row
unfoldable pub found_in : List View → ℕ
found_in vs = sum_of (λ x. x.found) vs

-- how many new vertices they have
unfoldable pub kept_in : List View → ℕ
kept_in vs = sum_of (λ x. length x.kept) vs

-- the positions of a row's new vertices
unfoldable pub row_positions : List Float → List View → List Float
row_positions ps vs = flat_map (λ x. new_positions ps x.kept) vs

-- their normals; the row's vertices start at `base`
unfoldable pub row_normals : List Float → ℕ → List View → List Float
row_normals ns base vs = flat_map (λ x. new_normals ns (base + x.a) (base + x.b) (base + x.c) x.kept) vs

-- the indices of a row's triangles, the first new vertex being `next`
unfoldable pub row_indices : ℕ → List View → List ℕ
row_indices next [] = []
row_indices next (x ∷ xs) = fan_go x.a None (ring_after x.b x.c next x.kept) ++ row_indices (next + length x.kept) xs

-- a row with its new counts
abbrev pub viewed_row : Row → List View → Row
viewed_row r vs = record { shell = r.shell; face = r.face; outcome = r.outcome; vertices = r.vertices + kept_in vs; indices = length (row_indices r.vertices vs); bin = r.bin }

-- all rows
unfoldable pub viewed_rows : List Row → List (List View) → List Row
viewed_rows [] vss = []
viewed_rows (r ∷ rs) [] = []
viewed_rows (r ∷ rs) (vs ∷ vss) = viewed_row r vs ∷ viewed_rows rs vss

-- all positions: `qs` begins with the first row's own
unfoldable pub viewed_positions : List Float → List Row → List Float → List (List View) → List Float
viewed_positions ps [] qs vss = []
viewed_positions ps (r ∷ rs) qs [] = []
viewed_positions ps (r ∷ rs) qs (vs ∷ vss) = (take (3 * r.vertices) qs ++ row_positions ps vs) ++ viewed_positions ps rs (drop (3 * r.vertices) qs) vss

-- all normals: `qs` begins with the first row's own, whose vertices start at `base`
unfoldable pub viewed_normals : List Float → ℕ → List Row → List Float → List (List View) → List Float
viewed_normals ns base [] qs vss = []
viewed_normals ns base (r ∷ rs) qs [] = []
viewed_normals ns base (r ∷ rs) qs (vs ∷ vss) = (take (3 * r.vertices) qs ++ row_normals ns base vs) ++ viewed_normals ns (base + r.vertices) rs (drop (3 * r.vertices) qs) vss

-- all indices
unfoldable pub viewed_indices : List Row → List (List View) → List ℕ
viewed_indices [] vss = []
viewed_indices (r ∷ rs) [] = []
viewed_indices (r ∷ rs) (vs ∷ vss) = row_indices r.vertices vs ++ viewed_indices rs vss
