-- The reader: what a file says, its checks, and the call. Assumes nothing.
use Rattle.std.specs.Prelude.{Bool, true, false, not, ◌||◌, List, [], ◌∷◌, ◌++◌, ℕ, zero, suc, ◌+◌, ◌*◌, length, take, drop, replicate, ltb, eqb, Float}
use Rattle.lists.specs.Lists.{any, written}
use Rattle.float_steps.specs.Floats.{f32, finite}
use Rattle.body_rows.specs.Body.{row_width, Check, check, first_failing}
use Rattle.stl_definition.specs.Bytes.{word_bytes, number, floats_of}
use Rattle.stl_definition.specs.File.{header_bytes, head_bytes, facet_bytes, normal_bytes, corner_bytes}
use Rattle.stl_definition.specs.Write.{one_row}

-- ---- what a file says; headers, facet normals and final two bytes are passed over

-- its count
unfoldable pub count_of : List ℕ → ℕ
count_of file = number (take word_bytes (drop header_bytes file))

-- the corners of so many triangles, nine floats each
unfoldable pub facet_corners : ℕ → List ℕ → List Float
facet_corners zero bytes = []
facet_corners (suc n) bytes = floats_of (take corner_bytes (drop normal_bytes bytes)) ++ facet_corners n (drop facet_bytes bytes)

-- the corners of its triangles
unfoldable pub file_corners : List ℕ → List Float
file_corners file = facet_corners (count_of file) (drop head_bytes file)

-- ---- the checks

-- the most triangles that are read
abbrev pub most_triangles : ℕ
most_triangles = 32000

-- the slices that the reader is lent
pub record ReadSlices : Type 0 where
  pub table : List ℕ
  pub positions : List Float
  pub normals : List Float
  pub indices : List ℕ

-- 72: the length is below 84, or other than 84 + 50 times the count
unfoldable pub wrong_length : List ℕ → Bool
wrong_length file = ltb (length file) head_bytes || not (eqb (length file) (head_bytes + facet_bytes * count_of file))

-- 74: a corner isn't finite
unfoldable pub corner_not_finite : List ℕ → Bool
corner_not_finite file = any (λ x. not (finite x)) (file_corners file)

-- 75: a slice is too short for so many triangles
unfoldable pub no_room : ℕ → ReadSlices → Bool
no_room n out =
    ltb (length out.table) row_width
    || ltb (length out.positions) (9 * n)
    || ltb (length out.normals) (9 * n)
    || ltb (length out.indices) (3 * n)

-- 72 to 75, in that order
unfoldable pub read_checks : List ℕ → ReadSlices → List Check
read_checks file out =
    check 72 (wrong_length file)
    ∷ check 73 (ltb most_triangles (count_of file))
    ∷ check 74 (corner_not_finite file)
    ∷ check 75 (no_room (count_of file) out)
    ∷ []

-- ---- the call

-- n numbers from k on
unfoldable pub numbers_from : ℕ → ℕ → List ℕ
numbers_from k zero = []
numbers_from k (suc n) = k ∷ numbers_from (suc k) n

-- what the reader answers (the refusal's number or 0; the vertices and the indices) and what it leaves in the lent slices
pub record AfterRead : Type 0 where
  pub refusal : ℕ
  pub vertices : ℕ
  pub indices : ℕ
  pub slices : ReadSlices

-- One row whose vertices are three to a triangle, normals zero, with these corners; what stands behind is unchanged.
unfoldable pub write_corners : ℕ → List Float → ReadSlices → AfterRead
write_corners n xs out =
    record {
      refusal = 0;
      vertices = 3 * n;
      indices = 3 * n;
      slices = record {
        table = written (one_row (3 * n) (3 * n)) out.table;
        positions = written xs out.positions;
        normals = written (replicate (9 * n) (f32 0)) out.normals;
        indices = written (numbers_from 0 (3 * n)) out.indices;
      };
    }

-- A refusal is its number only; the slices are unchanged.
unfoldable pub refuse_read : ℕ → ReadSlices → AfterRead
refuse_read n out = record { refusal = n; vertices = 0; indices = 0; slices = out }

-- the reader: the file's bytes and the slices to write
unfoldable pub read_of : List ℕ → ReadSlices → AfterRead
read_of file out =
    let n = first_failing (read_checks file out) in
    elim (eqb n 0) [ true ↦ write_corners (count_of file) (file_corners file) out | false ↦ refuse_read n out ]
