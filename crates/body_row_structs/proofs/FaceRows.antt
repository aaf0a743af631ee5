-- The face read from a slice of rows is the one that the flat table has. Assumes nothing.
use Rattle.std.specs.Prelude.{◌≡◌, List, ℕ}
use Rattle.std.proofs.Common.{ap}
use Rattle.body_rows.specs.Body as Body
use Rattle.body_rows.specs.Rows as Flat
use Rattle.body_row_structs.specs.declared.Row.{Row}
use Rattle.body_row_structs.specs.FaceRows.{face_at, flat, flat_row}

-- So the face read from the slice has the number that the flat table has.
pub flat_face : (rows : List Row) (k : ℕ) → (Flat.row_at (flat rows) k).face ≡ (face_at rows k).0
flat_face rows k = ap (λ (r : Body.Row). r.face) (flat_row rows k)
