-- A row's indices after stitching, which list holds them, and a copy of them. Assumes nothing.
use Rattle.std.specs.Prelude.{Bool, ◌&&◌, cond, List, ◌++◌, ℕ, length, take, drop, ltb}
use Rattle.body_rows.specs.Body.{rows_of}
use Rattle.body_rows.specs.Rows.{row_at, indices_before}

-- row k's indices of a body's: as many as the row says, behind those of the rows before it; none past the end
unfoldable pub row_indices : List ℕ → List ℕ → ℕ → List ℕ
row_indices table indices k = take (row_at table k).indices (drop (indices_before (rows_of table) k) indices)

-- whether row k was stitched, by the tables before and after: it has new vertices
unfoldable pub is_stitched : List ℕ → List ℕ → ℕ → Bool
is_stitched before after k = ltb k (length (rows_of before)) && ltb (row_at before k).vertices (row_at after k).vertices

-- A face's indices are handed back as a stretch of whichever list holds them, the old or, if its row was stitched, the new.
unfoldable pub face_indices : List ℕ → List ℕ → List ℕ → List ℕ → ℕ → List ℕ
face_indices before after old new k = cond (is_stitched before after k) (row_indices after new k) (row_indices before old k)

-- what a copy of a face's indices answers, how many there are, and what it leaves in the slice that it writes
pub record CopiedFace : Type 0 where
  pub count : ℕ
  pub out : List ℕ

-- the answer and the slice
abbrev pub left_face : ℕ → List ℕ → CopiedFace
left_face n out = record { count = n; out = out }

-- a face's indices copied to the front of a slice, as many as there is room for; output beyond is unchanged
unfoldable pub copy_face : List ℕ → List ℕ → CopiedFace
copy_face is out = left_face (length is) (take (length out) is ++ drop (length is) out)
