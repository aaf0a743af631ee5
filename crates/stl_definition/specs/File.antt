-- A binary STL file: 80 header bytes, a 32-bit count, then 50 bytes a triangle, little-endian. Assumes nothing.
use mathlib.Core.List.{List, [], ◌∷◌, ◌++◌, flat_map}
use Rattle.std.specs.Prelude.{ℕ, ◌+◌, ◌*◌, ◌/◌, length, get_or, replicate, Float}
use Rattle.std.specs.Float.{nan}
use Rattle.body_rows.specs.Body.{Triangle, triangles_of}
use Rattle.stl_definition.specs.Bytes.{word, floats_bytes}

-- the header
abbrev pub header_bytes : ℕ
header_bytes = 80

-- the header and the count
abbrev pub head_bytes : ℕ
head_bytes = 84

-- a triangle: its normal, its corners and two bytes
abbrev pub facet_bytes : ℕ
facet_bytes = 50

abbrev pub normal_bytes : ℕ
normal_bytes = 12

abbrev pub corner_bytes : ℕ
corner_bytes = 36

abbrev pub last_bytes : ℕ
last_bytes = 2

-- ---- the mesh

-- how many triangles so many indices make
abbrev pub triangle_count : List ℕ → ℕ
triangle_count is = length is / 3

-- the coordinates of vertex i, of a slice with so many floats to a vertex
abbrev pub point_in : ℕ → List Float → ℕ → List Float
point_in stride vs i = get_or vs (stride * i) nan ∷ get_or vs (stride * i + 1) nan ∷ get_or vs (stride * i + 2) nan ∷ []

-- the nine coordinates of a triangle's corners
abbrev pub corners : ℕ → List Float → Triangle → List Float
corners stride vs t = point_in stride vs t.a ++ point_in stride vs t.b ++ point_in stride vs t.c

-- those of a mesh, triangle by triangle in mesh order
unfoldable pub corners_of : ℕ → List Float → List ℕ → List Float
corners_of stride vs is = flat_map (corners stride vs) (triangles_of is)

-- ---- its file

-- Facet normals and last two bytes are zero.
unfoldable pub facet : List Float → List ℕ
facet xs = replicate normal_bytes 0 ++ floats_bytes xs ++ replicate last_bytes 0

-- the file of a mesh: the header is zero, triangles in mesh order
unfoldable pub file_of : ℕ → List Float → List ℕ → List ℕ
file_of stride vs is = replicate header_bytes 0 ++ word (triangle_count is) ++ flat_map (λ t. facet (corners stride vs t)) (triangles_of is)

-- how long it is
abbrev pub file_length : List ℕ → ℕ
file_length is = head_bytes + facet_bytes * triangle_count is
