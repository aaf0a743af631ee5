-- Body and rows: the flat table as rows, the slices as patches, a check, and the work area. Assumes nothing.
use Rattle.std.specs.Prelude.{Bool, cond, List, [], ◌∷◌, ◌++◌, ℕ, ◌+◌, ◌*◌, length, take, drop, replicate, Float}
use Rattle.lists.specs.Lists.{sum_of}

-- how many numbers of the flat table make a row
abbrev pub row_width : ℕ
row_width = 6

-- how far before a row's end its vertex count stands
abbrev pub vertices_back : ℕ
vertices_back = 3

-- how far before a row's end its index count stands
abbrev pub indices_back : ℕ
indices_back = 2

-- A row has a shell number, a face number, an outcome (0 for a patch, 1 to 255 for an upstream failure), a vertex count, an index count and a bin number.
pub record Row : Type 0 where
  pub shell : ℕ
  pub face : ℕ
  pub outcome : ℕ
  pub vertices : ℕ
  pub indices : ℕ
  pub bin : ℕ

-- the rows of a flat table of whole rows
unfoldable pub rows_of : List ℕ → List Row
rows_of [] = []
rows_of (s ∷ []) = []
rows_of (s ∷ f ∷ []) = []
rows_of (s ∷ f ∷ o ∷ []) = []
rows_of (s ∷ f ∷ o ∷ v ∷ []) = []
rows_of (s ∷ f ∷ o ∷ v ∷ i ∷ []) = []
rows_of (s ∷ f ∷ o ∷ v ∷ i ∷ b ∷ rest) = record { shell = s; face = f; outcome = o; vertices = v; indices = i; bin = b } ∷ rows_of rest

-- the flat table of some rows
unfoldable pub table_of : List Row → List ℕ
table_of [] = []
table_of (r ∷ rs) = r.shell ∷ r.face ∷ r.outcome ∷ r.vertices ∷ r.indices ∷ r.bin ∷ table_of rs

-- V: the vertices of all rows
unfoldable pub all_vertices : List Row → ℕ
all_vertices rows = sum_of (λ r. r.vertices) rows

-- I: the indices of all rows
unfoldable pub all_indices : List Row → ℕ
all_indices rows = sum_of (λ r. r.indices) rows

-- a row with its patch: three coordinates a vertex, and indices that count from 0 within the patch
pub record Patch : Type 0 where
  pub row : Row
  pub positions : List Float
  pub normals : List Float
  pub indices : List ℕ

-- Patches follow one another without gaps.
unfoldable pub patches_of : List Row → List Float → List Float → List ℕ → List Patch
patches_of [] ps ns is = []
patches_of (r ∷ rs) ps ns is =
    record { row = r; positions = take (3 * r.vertices) ps; normals = take (3 * r.vertices) ns; indices = take r.indices is }
    ∷ patches_of rs (drop (3 * r.vertices) ps) (drop (3 * r.vertices) ns) (drop r.indices is)

-- a triangle of a patch: the indices of its corners 0, 1 and 2
pub record Triangle : Type 0 where
  pub a : ℕ
  pub b : ℕ
  pub c : ℕ

-- the triangles of a patch: every three indices in turn
unfoldable pub triangles_of : List ℕ → List Triangle
triangles_of [] = []
triangles_of (a ∷ []) = []
triangles_of (a ∷ b ∷ []) = []
triangles_of (a ∷ b ∷ c ∷ is) = record { a = a; b = b; c = c } ∷ triangles_of is

-- a refusal's number, and whether its condition holds
pub record Check : Type 0 where
  pub number : ℕ
  pub fails : Bool

-- the check with that number and condition
abbrev pub check : ℕ → Bool → Check
check n b = record { number = n; fails = b }

-- Checks go in table order, each over the whole body before the next: the number of the first check that fails, else 0.
unfoldable pub first_failing : List Check → ℕ
first_failing [] = 0
first_failing (c ∷ cs) = let n = first_failing cs in cond c.fails c.number n

-- 31 counts 16 × I + 16 × F + 4 × V 64-bit words.
unfoldable pub work_needed : List Row → ℕ
work_needed rows = 16 * all_indices rows + 16 * length rows + 4 * all_vertices rows

-- From the check after 31 on, refused or not, the first words counted in 31 come back zero; those beyond are unchanged.
unfoldable pub cleared : List Row → List ℕ → List ℕ
cleared rows work = replicate (work_needed rows) 0 ++ drop (work_needed rows) work
