-- What reading the triangles of a file asks and leaves, and what the reader leaves of a file that was checked. Assumes nothing.
use Rattle.std.specs.Prelude.{◌≡◌, true, false, List, [], ◌∷◌, ℕ, ◌+◌, ◌*◌, ◌≤◌, ◌<◌, ltb, Float, drop, get_or, length}
use Rattle.body_rows.specs.Body.{Check, check, row_width}
use Rattle.stl_definition.specs.File.{facet_bytes, head_bytes}
use Rattle.stl_definition.specs.Read.{AfterRead, ReadSlices, corner_not_finite, count_of, facet_corners, file_corners, most_triangles, no_room, refuse_read, write_corners, wrong_length}

-- r is the byte at p
pub record ByteAt (file : List ℕ) (p r : ℕ) : Type 0 where
  pub value : r ≡ get_or file p 0
  pub small : r < 256

-- a file holds n triangles, no more than are read
pub record Holds (file : List ℕ) (n : ℕ) : Type 0 where
  pub long : head_bytes + facet_bytes * n ≤ length file
  pub few : n ≤ most_triangles

-- and there is room for their corners
pub record CornersReady (file : List ℕ) (n : ℕ) (positions : List Float) : Type 0 where
  pub holds : Holds file n
  pub room : 9 * n ≤ length positions

-- a file holds n triangles, and the slices have room for them
pub record MeshReady (file : List ℕ) (n : ℕ) (out : ReadSlices) : Type 0 where
  pub holds : Holds file n
  pub rows : row_width ≤ length out.table
  pub positions : 9 * n ≤ length out.positions
  pub normals : 9 * n ≤ length out.normals
  pub indices : 3 * n ≤ length out.indices

-- the n triangles of a file were written to the front of the slices, with so many vertices
pub record MeshPut (file : List ℕ) (n : ℕ) (out new : ReadSlices) (vertices : ℕ) : Type 0 where
  pub count : vertices ≡ 3 * n
  pub left : new ≡ (write_corners n (facet_corners n (drop head_bytes file)) out).slices

-- 72 to 74, in that order
unfoldable pub file_checks : List ℕ → List Check
file_checks file = check 72 (wrong_length file) ∷ check 73 (ltb most_triangles (count_of file)) ∷ check 74 (corner_not_finite file) ∷ []

-- what was read of a file that was checked, or 75
unfoldable pub fitted : List ℕ → ReadSlices → AfterRead
fitted file out = elim (no_room (count_of file) out) [ true ↦ refuse_read 75 out | false ↦ write_corners (count_of file) (file_corners file) out ]
