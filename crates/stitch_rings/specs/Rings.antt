-- The ring of a split triangle: its corners with the new vertices between them, what these are, and the fan. Assumes nothing.
use Rattle.std.specs.Prelude.{Bool, true, false, cond, Option, Some, None, List, [], ◌∷◌, ◌++◌, map, ℕ, zero, suc, ◌+◌, ◌*◌, get_or, eqb, Float}
use Rattle.std.specs.Float.{nan}
use Rattle.patch_geometry.specs.Geometry.{point_at}
use Rattle.stitch_projection.specs.Projection.{mixed}
use Rattle.stitch_splits.specs.Entries.{Entry}

-- the triangles of a fan from corner a
unfoldable pub fan_from : ℕ → List ℕ → List ℕ
fan_from a [] = []
fan_from a (b ∷ []) = []
fan_from a (b ∷ c ∷ is) = a ∷ b ∷ c ∷ fan_from a (c ∷ is)

-- The ring is fanned from corner 0.
unfoldable pub fan : List ℕ → List ℕ
fan [] = []
fan (a ∷ is) = fan_from a is

-- ---- the new vertices of a triangle's entries

-- the three coordinates of vertex g
abbrev pub coordinates_at : List Float → ℕ → List Float
coordinates_at xs g = get_or xs (3 * g) nan ∷ get_or xs (3 * g + 1) nan ∷ get_or xs (3 * g + 2) nan ∷ []

-- the positions of the new vertices: those of the vertices that split the triangle
unfoldable pub new_positions : List Float → List Entry → List Float
new_positions ps [] = []
new_positions ps (x ∷ xs) = coordinates_at ps x.vertex ++ new_positions ps xs

-- the corner from which edge e runs, of the corners a, b, c
abbrev pub start_of : ℕ → ℕ → ℕ → ℕ → ℕ
start_of a b c zero = a
start_of a b c (suc zero) = b
start_of a b c (suc (suc e)) = c

-- the corner to which it runs: the one from which the next edge runs
abbrev pub end_of : ℕ → ℕ → ℕ → ℕ → ℕ
end_of a b c e = start_of b c a e

-- the normals of the new vertices: mixed from those of their edge's ends
unfoldable pub new_normals : List Float → ℕ → ℕ → ℕ → List Entry → List Float
new_normals ns a b c [] = []
new_normals ns a b c (x ∷ xs) = mixed (point_at ns (start_of a b c x.e)) (point_at ns (end_of a b c x.e)) x.t ++ new_normals ns a b c xs

-- the numbers of the new vertices on edge e, the first of all being `next`; the list has the edge of each
unfoldable pub numbers_of : ℕ → ℕ → List ℕ → List ℕ
numbers_of e next [] = []
numbers_of e next (x ∷ xs) = let rest = numbers_of e (next + 1) xs in cond (eqb x e) (next ∷ rest) rest

-- the edge of each entry
abbrev pub edges_of : List Entry → List ℕ
edges_of xs = map (λ x. x.e) xs

-- the ring behind corner a: the new vertices of each edge, with the corners b and c between them
abbrev pub ring_after : ℕ → ℕ → ℕ → List Entry → List ℕ
ring_after b c next xs = numbers_of 0 next (edges_of xs) ++ (b ∷ numbers_of 1 next (edges_of xs)) ++ (c ∷ numbers_of 2 next (edges_of xs))

-- ---- the fan as it is written: one vertex after another, each with the one before it

-- the triangles that the vertices of a list add to a fan from corner a, behind the last vertex if there was one
unfoldable pub fan_go : ℕ → Option ℕ → List ℕ → List ℕ
fan_go a last [] = []
fan_go a None (y ∷ ys) = fan_go a (Some y) ys
fan_go a (Some last) (y ∷ ys) = a ∷ last ∷ y ∷ fan_go a (Some y) ys
