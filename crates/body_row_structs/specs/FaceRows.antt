-- The face table as a slice of rows, and that it says what the flat table says. Assumes nothing.
use Rattle.std.specs.Prelude.{◌≡◌, refl, List, [], ◌∷◌, map, ℕ, ◌*◌, length, get_or}
use Rattle.std.proofs.Common.{ap, ◌∙◌}
use Rattle.std.proofs.lemmas.List.{length-map}
use Rattle.std.proofs.Math.ListN.{get_or-map}
use Rattle.body_rows.specs.Body as Body
use Rattle.body_rows.specs.Body.{row_width, rows_of, table_of}
use Rattle.body_rows.specs.Rows as Flat
use Rattle.mesh_materials.specs.declared.FaceId.{FaceId}
use Rattle.body_row_structs.specs.declared.Row.{Row}

-- a row of zeros: what lies past the end
abbrev pub no_row : Row
no_row = record { shell = 0; face = 0; outcome = 0; vertices = 0; indices = 0; bin = 0 }

-- row k of the slice
abbrev pub row_at : List Row → ℕ → Row
row_at rows k = get_or rows k no_row

-- the face of row k
abbrev pub face_at : List Row → ℕ → FaceId
face_at rows k = record { 0 = (row_at rows k).face }

-- the row of a body that it is
abbrev pub body_row : Row → Body.Row
body_row r = record { shell = r.shell; face = r.face; outcome = r.outcome; vertices = r.vertices; indices = r.indices; bin = r.bin }

-- the same table as flat numbers, `row_width` a row
abbrev pub flat : List Row → List ℕ
flat rows = table_of (map body_row rows)

-- a flat table of some rows has those rows
pub table_rows : (rows : List Body.Row) → rows_of (table_of rows) ≡ rows
unfolding rows_of table_of
table_rows [] = refl
table_rows (r ∷ rs) = ap (λ (rest : List Body.Row). r ∷ rest) (table_rows rs)

-- The flat table's rows are the slice's,
pub flat_rows : (rows : List Row) → rows_of (flat rows) ≡ map body_row rows
flat_rows rows = table_rows (map body_row rows)

-- it is whole rows, as many as the slice has,
pub flat_length : (rows : List Row) → length (flat rows) ≡ row_width * length rows
flat_length rows = Flat.table_length (map body_row rows) ∙ ap (λ (n : ℕ). row_width * n) (length-map rows body_row)

-- and its row k is row k of the slice, past the end too.
pub flat_row : (rows : List Row) (k : ℕ) → Flat.row_at (flat rows) k ≡ body_row (row_at rows k)
unfolding Flat.row_at
flat_row rows k = ap (λ (rs : List Body.Row). get_or rs k Flat.no_row) (flat_rows rows) ∙ get_or-map body_row rows k no_row
