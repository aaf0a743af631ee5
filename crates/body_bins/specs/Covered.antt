-- A column of a table covered, and rows and patches whose bin is covered. Assumes nothing.
use Rattle.std.specs.Prelude.{◌≡◌, refl, ℕ, zero, suc, ◌+◌, ◌*◌, length, take, drop, set, replicate, Float}
use Rattle.std.proofs.Common.{ap}
use mathlib.Core.List.{List, [], ◌∷◌, ◌++◌, map, flat_map}
use Rattle.std.proofs.lemmas.List.{length-map}
use Rattle.lists.specs.Lists.{sum_of}
use Rattle.body_rows.specs.Body.{row_width, Row, Patch, rows_of, table_of, patches_of, all_vertices, all_indices, work_needed, cleared}
use Rattle.edge_uses.specs.Seen.{seen}

-- ---- tables

-- in the first n rows of a table of so many numbers a row, the number at `place` of each is covered: it is told as 0
unfoldable pub covered : ℕ → ℕ → ℕ → List ℕ → List ℕ
covered width place zero t = t
covered width place (suc n) t = set (take width t) place 0 ++ covered width place n (drop width t)

-- where a row of the face table has its bin
abbrev pub bin_place : ℕ
bin_place = 5

-- where a range and a failure have it
abbrev pub bin_behind_face : ℕ
bin_behind_face = 1

-- a face table with the bin column covered
abbrev pub covered_table : List ℕ → List ℕ
covered_table table = covered row_width bin_place (length (rows_of table)) table

-- ---- rows and patches

-- a row with its bin covered
abbrev pub cover_row : Row → Row
cover_row r = record { shell = r.shell; face = r.face; outcome = r.outcome; vertices = r.vertices; indices = r.indices; bin = 0 }

-- a patch whose row has its bin covered
abbrev pub cover_patch : Patch → Patch
cover_patch = seen cover_row (λ ns. ns)

-- the rows of a covered table
pub rows_covered : (table : List ℕ) → rows_of (covered_table table) ≡ map cover_row (rows_of table)
unfolding rows_of covered
rows_covered [] = refl
rows_covered (s ∷ []) = refl
rows_covered (s ∷ f ∷ []) = refl
rows_covered (s ∷ f ∷ o ∷ []) = refl
rows_covered (s ∷ f ∷ o ∷ v ∷ []) = refl
rows_covered (s ∷ f ∷ o ∷ v ∷ i ∷ []) = refl
rows_covered (s ∷ f ∷ o ∷ v ∷ i ∷ b ∷ rest) =
    ap (λ (rs : List Row). record { shell = s; face = f; outcome = o; vertices = v; indices = i; bin = 0 } ∷ rs) (rows_covered rest)

-- the covered table of some rows
pub table_covered : (rows : List Row) (rest : List ℕ) → covered row_width bin_place (length rows) (table_of rows ++ rest) ≡ table_of (map cover_row rows) ++ rest
unfolding table_of covered
table_covered [] rest = refl
table_covered (r ∷ rs) rest = ap (λ (t : List ℕ). r.shell ∷ r.face ∷ r.outcome ∷ r.vertices ∷ r.indices ∷ 0 ∷ t) (table_covered rs rest)

-- the patches of covered rows
pub patches_covered : (rows : List Row) (ps ns : List Float) (is : List ℕ) → patches_of (map cover_row rows) ps ns is ≡ map cover_patch (patches_of rows ps ns is)
unfolding patches_of
patches_covered [] ps ns is = refl
patches_covered (r ∷ rs) ps ns is =
    ap (λ (l : List Patch). record { row = cover_row r; positions = take (3 * r.vertices) ps; normals = take (3 * r.vertices) ns; indices = take r.indices is } ∷ l)
    (patches_covered rs (drop (3 * r.vertices) ps) (drop (3 * r.vertices) ns) (drop r.indices is))

-- ---- sizes

-- V
pub vertices_covered : (rows : List Row) → all_vertices (map cover_row rows) ≡ all_vertices rows
unfolding all_vertices sum_of
vertices_covered [] = refl
vertices_covered (r ∷ rs) = ap (λ (n : ℕ). r.vertices + n) (vertices_covered rs)

-- I
pub indices_covered : (rows : List Row) → all_indices (map cover_row rows) ≡ all_indices rows
unfolding all_indices sum_of
indices_covered [] = refl
indices_covered (r ∷ rs) = ap (λ (n : ℕ). r.indices + n) (indices_covered rs)

-- the words that 31 counts
needed_covered : (rows : List Row) → work_needed (map cover_row rows) ≡ work_needed rows
unfolding work_needed
needed_covered rows = λ i. 16 * indices_covered rows i + 16 * length-map rows cover_row i + 4 * vertices_covered rows i

-- the work area cleared
pub cleared_covered : (rows : List Row) (work : List ℕ) → cleared (map cover_row rows) work ≡ cleared rows work
unfolding cleared
cleared_covered rows work = ap (λ (n : ℕ). replicate n 0 ++ drop n work) (needed_covered rows)

-- ---- patches laid end to end

-- their positions
pub flat_covered_positions : (patches : List Patch) → flat_map (λ p. p.positions) (map cover_patch patches) ≡ flat_map (λ p. p.positions) patches
unfolding flat_map
flat_covered_positions [] = refl
flat_covered_positions (p ∷ ps) = ap (λ (l : List Float). p.positions ++ l) (flat_covered_positions ps)

-- their normals
pub flat_covered_normals : (patches : List Patch) → flat_map (λ p. p.normals) (map cover_patch patches) ≡ flat_map (λ p. p.normals) patches
unfolding flat_map
flat_covered_normals [] = refl
flat_covered_normals (p ∷ ps) = ap (λ (l : List Float). p.normals ++ l) (flat_covered_normals ps)

-- their indices
pub flat_covered_indices : (patches : List Patch) → flat_map (λ p. p.indices) (map cover_patch patches) ≡ flat_map (λ p. p.indices) patches
unfolding flat_map
flat_covered_indices [] = refl
flat_covered_indices (p ∷ ps) = ap (λ (l : List ℕ). p.indices ++ l) (flat_covered_indices ps)

-- their rows
pub rows_of_covered : (patches : List Patch) → map (λ p. p.row) (map cover_patch patches) ≡ map cover_row (map (λ p. p.row) patches)
rows_of_covered [] = refl
rows_of_covered (p ∷ ps) = ap (λ (l : List Row). cover_row p.row ∷ l) (rows_of_covered ps)
