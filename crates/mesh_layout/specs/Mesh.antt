-- The mesh: accepted vertices in row order, indices in one run per material, parts and ranges. Assumes nothing.
use Rattle.std.specs.Prelude.{cond, ℕ, ◌+◌, length, ltb, eqb, Float}
use mathlib.Core.List.{List, [], ◌∷◌, ◌++◌, map, flat_map}
use Rattle.lists.specs.Lists.{insert_new, sum_of, written}
use Rattle.mesh_acceptance.specs.Acceptance.{Accepted}

-- ---- the mesh's vertices, as they are held

-- positions in one slice and normals in another, three numbers a vertex
pub record Vertices : Type 0 where
  pub positions : List Float
  pub normals : List Float

-- Accepted vertices are laid in row order.
unfoldable pub vertices_of : List Accepted → Vertices
vertices_of accepted = record { positions = flat_map (λ a. a.patch.positions) accepted; normals = flat_map (λ a. a.patch.normals) accepted }

-- slices that held `old`, after vertices were written to their front
unfoldable pub written_vertices : Vertices → Vertices → Vertices
written_vertices vs old = record { positions = written vs.positions old.positions; normals = written vs.normals old.normals }

-- ---- its indices, parts and ranges

-- an accepted patch in the mesh: its face, its bin, its material, and its indices, which count from 0 within the mesh
pub record Laid : Type 0 where
  pub face : ℕ
  pub bin : ℕ
  pub material : ℕ
  pub indices : List ℕ

-- the patches laid in row order; `base` vertices stand before
unfoldable pub laid_from : ℕ → List Accepted → List Laid
laid_from base [] = []
laid_from base (a ∷ rest) =
    record { face = a.patch.row.face; bin = a.patch.row.bin; material = a.material; indices = map (λ i. base + i) a.patch.indices } ∷ laid_from (base + a.patch.row.vertices) rest

-- the materials of the accepted patches, ascending
unfoldable pub materials_of : List Laid → List ℕ
materials_of [] = []
materials_of (l ∷ ls) = insert_new l.material (materials_of ls)

-- the run of one material: the indices of its patches, in row order
unfoldable pub run_of : List Laid → ℕ → List ℕ
run_of ls m = flat_map (λ l. cond (eqb l.material m) l.indices []) ls

-- Indices are laid in one run per material, ascending.
unfoldable pub runs_of : List Laid → List ℕ
runs_of ls = flat_map (run_of ls) (materials_of ls)

-- how many indices the runs before that of material m have
unfoldable pub start_of : List Laid → ℕ → ℕ
start_of ls m = sum_of (λ l. cond (ltb l.material m) (length l.indices) 0) ls

-- how many numbers make a part
abbrev pub part_width : ℕ
part_width = 3

-- Part: material, start, count.
unfoldable pub part_of : List Laid → ℕ → List ℕ
part_of ls m = m ∷ start_of ls m ∷ length (run_of ls m) ∷ []

-- how many numbers make a range
abbrev pub range_width : ℕ
range_width = 4

-- Range: face, bin, first index, one past the last.
unfoldable pub range_of : Laid → ℕ → List ℕ
range_of l first = l.face ∷ l.bin ∷ first ∷ (first + length l.indices) ∷ []

-- Ranges go in row order: `before` are the patches already laid, and `all` are all.
unfoldable pub ranges_from : List Laid → List Laid → List Laid → List ℕ
ranges_from all before [] = []
ranges_from all before (l ∷ ls) =
    range_of l (start_of all l.material + length (run_of before l.material)) ++ ranges_from all (before ++ l ∷ []) ls
