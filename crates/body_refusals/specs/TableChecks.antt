-- The checks 11 to 15: the table, its outcomes, its sizes, the lengths of the slices, and the bins. Assumes nothing.
use Rattle.std.specs.Prelude.{Bool, not, ◌&&◌, ◌||◌, List, [], ◌∷◌, ℕ, ◌+◌, ◌*◌, ◌%◌, length, ltb, eqb, Float}
use Rattle.lists.specs.Lists.{any}
use Rattle.body_rows.specs.Body.{row_width, Row, all_vertices, all_indices, Check, check}

-- the most rows that a body may have
abbrev pub most_rows : ℕ
most_rows = 4096

-- the most vertices
abbrev pub most_vertices : ℕ
most_vertices = 262144

-- the most indices
abbrev pub most_indices : ℕ
most_indices = 786432

-- the largest bin number
abbrev pub most_bin : ℕ
most_bin = 65535

-- 12: an outcome is above 255, or a failed row has a count other than 0
unfoldable pub bad_row : Row → Bool
bad_row r = ltb 255 r.outcome || (not (eqb r.outcome 0) && not (eqb (r.vertices + r.indices) 0))

-- 13: V is above 262,144 or I above 786,432
unfoldable pub too_large : ℕ → ℕ → Bool
too_large vertices indices = ltb most_vertices vertices || ltb most_indices indices

-- 15: a bin is above 65,535
unfoldable pub bad_bin : Row → Bool
bad_bin r = ltb most_bin r.bin

-- 11 to 15: the table is whole rows and not too many; its outcomes; V and I; the lengths of the slices; the bins of all rows
unfoldable pub table_checks : List ℕ → List Row → List Float → List Float → List ℕ → List Check
table_checks table rows ps ns is =
    check 11 (not (eqb (length table % row_width) 0) || ltb most_rows (length rows))
    ∷ check 12 (any bad_row rows)
    ∷ check 13 (too_large (all_vertices rows) (all_indices rows))
    ∷ check 14 (not (eqb (length ps) (3 * all_vertices rows) && eqb (length ns) (3 * all_vertices rows) && eqb (length is) (all_indices rows)))
    ∷ check 15 (any bad_bin rows)
    ∷ []
