-- Which text is a sheet of the bench program, and of the yard program: short texts and the refusals of their reading, each of which tells a reading of document 01 from a near miss. Assumes nothing.
use Rattle.std.specs.Prelude.{List, [], ◌∷◌, ◌++◌, ℕ, take, replicate, T}
use Rattle.lists.specs.Lists.{all}
use Rattle.lists.specs.Table.{Case, case, agrees}
use Rattle.sheet_digits.specs.Bytes.{bytes, lines}
use Rattle.sheet_line_order.specs.Limits.{bench_limits, yard_limits}
use Rattle.sheet_line_order.specs.Reading.{sheet_of}
use Rattle.sheet_line_order.specs.Samples.{face, sheet, vertex}
use Rattle.sheet_line_order.specs.Evaluation.{evaluation}

-- the refusal of a text, 0 for a sheet
refusal : List ℕ → ℕ
refusal t = (sheet_of bench_limits t).refusal

-- the refusal of those lines after box, sag and default
reading : List (List ℕ) → ℕ
reading ls = refusal (sheet ls)

-- the same refusal by the yard program
yard : List (List ℕ) → ℕ
yard ls = (sheet_of yard_limits (sheet ls)).refusal

-- a triangle
triangle : List ℕ
triangle = bytes "(t 0 1 2)"

-- so many times the same line
times : ℕ → List ℕ → List (List ℕ)
times n l = replicate n l

-- forms, order, limits, 51 before 52, the earlier line before the later
pub claims : List Case
claims =
    case 1 (reading [] ∷ reading (face ∷ vertex ∷ vertex ∷ triangle ∷ triangle ∷ face ∷ []) ∷ reading (bytes "(fail 0 1 255)" ∷ face ∷ bytes "(fail 0 1 300)" ∷ []) ∷ []) (0 ∷ 0 ∷ 0 ∷ [])
    ∷ case 2 (refusal [] ∷ refusal (sheet [] ++ face) ∷ refusal (lines (face ∷ [])) ∷ refusal (lines (bytes "" ∷ [])) ∷ refusal (take 120 (sheet [])) ∷ []) (51 ∷ 51 ∷ 51 ∷ 51 ∷ 51 ∷ [])
    ∷ case 3 (reading (bytes "(face 0 07)" ∷ []) ∷ reading (bytes "(face 00 7)" ∷ []) ∷ reading (bytes "(face 0  7)" ∷ []) ∷ reading (bytes "(face 0 7) " ∷ [])
    ∷ reading (bytes "(face 4294967296 7)" ∷ []) ∷ reading (bytes "(face 4294967295 7)" ∷ []) ∷ []) (51 ∷ 51 ∷ 51 ∷ 51 ∷ 51 ∷ 0 ∷ [])
    ∷ case 4 (reading (face ∷ bytes "(v (p 3f800000 00000000 80000000) (n 00000000 00000000 7FC00000))" ∷ [])
    ∷ reading (face ∷ bytes "(v (p 3F80000 00000000 80000000) (n 00000000 00000000 7FC00000))" ∷ []) ∷ []) (51 ∷ 51 ∷ [])
    ∷ case 5 (reading (vertex ∷ []) ∷ reading (triangle ∷ []) ∷ reading (face ∷ triangle ∷ vertex ∷ []) ∷ reading (face ∷ bytes "(material 1 1)" ∷ []) ∷ reading (bytes "(fail 0 1 2)" ∷ vertex ∷ [])
    ∷ reading (bytes "(sag 3FD0000000000000)" ∷ []) ∷ []) (51 ∷ 51 ∷ 51 ∷ 51 ∷ 51 ∷ 51 ∷ [])
    ∷ case 6 (reading (bytes "(fail 0 1 0)" ∷ []) ∷ reading (bytes "(fail 0 1 4294967296)" ∷ []) ∷ reading (bytes "(fail 0 64 1)" ∷ []) ∷ reading (bytes "(face 0 64)" ∷ [])
    ∷ reading (bytes "(material 64 1)" ∷ []) ∷ reading (bytes "(material 63 4294967295)" ∷ []) ∷ []) (51 ∷ 51 ∷ 52 ∷ 52 ∷ 52 ∷ 0 ∷ [])
    ∷ case 7 (reading (bytes "(fail 0 64 0)" ∷ []) ∷ reading (bytes "(face 0 64)" ∷ bytes "(face" ∷ []) ∷ reading (bytes "(face" ∷ bytes "(face 0 64)" ∷ [])
    ∷ reading (face ∷ triangle ∷ bytes "(material 64 1)" ∷ []) ∷ []) (51 ∷ 52 ∷ 51 ∷ 51 ∷ [])
    ∷ case 8 (reading (times 16 face) ∷ reading (times 17 face) ∷ reading (face ∷ times 32 triangle) ∷ reading (face ∷ times 33 triangle) ∷ []) (0 ∷ 52 ∷ 0 ∷ 52 ∷ [])
    ∷ case 9 ((sheet_of bench_limits (sheet (bytes "(material 1 5)" ∷ bytes "(material 2 0)" ∷ bytes "(material 1 6)" ∷ []))).sheet.default
    ∷ take 4 (sheet_of bench_limits (sheet (bytes "(material 1 5)" ∷ bytes "(material 2 0)" ∷ bytes "(material 1 6)" ∷ []))).sheet.materials) (3 ∷ 0 ∷ 7 ∷ 1 ∷ 0 ∷ [])
    ∷ case 10 (sheet_of bench_limits (sheet (face ∷ vertex ∷ vertex ∷ triangle ∷ bytes "(fail 8 9 3)" ∷ []))).sheet.table (0 ∷ 63 ∷ 0 ∷ 2 ∷ 3 ∷ 0 ∷ 8 ∷ 9 ∷ 3 ∷ 0 ∷ 0 ∷ 0 ∷ [])
    ∷ case 11 (yard (bytes "(face 0 4095)" ∷ []) ∷ yard (bytes "(face 0 4096)" ∷ []) ∷ yard (times 256 (bytes "(fail 0 64 1)")) ∷ yard (times 257 (bytes "(fail 0 64 1)")) ∷ []) (0 ∷ 52 ∷ 0 ∷ 52 ∷ [])
    ∷ case 12 (sheet_of bench_limits (sheet (bytes "(face 0 7 65535)" ∷ vertex ∷ triangle ∷ bytes "(fail 8 9 3 6)" ∷ bytes "(face 0 0 0)" ∷ []))).sheet.table
    (0 ∷ 7 ∷ 0 ∷ 1 ∷ 3 ∷ 65535 ∷ 8 ∷ 9 ∷ 3 ∷ 0 ∷ 0 ∷ 6 ∷ 0 ∷ 0 ∷ 0 ∷ 0 ∷ 0 ∷ 0 ∷ [])
    ∷ case 13 (reading (bytes "(face 0 7 65536)" ∷ []) ∷ reading (bytes "(face 0 7 4294967295)" ∷ []) ∷ reading (bytes "(face 0 7 4294967296)" ∷ [])
    ∷ reading (bytes "(fail 0 7 256 65536)" ∷ []) ∷ reading (bytes "(fail 0 7 3 4294967296)" ∷ []) ∷ []) (0 ∷ 0 ∷ 51 ∷ 0 ∷ 51 ∷ [])
    ∷ case 14 (reading (bytes "(face 0 64 65536)" ∷ []) ∷ reading (bytes "(fail 0 64 3 0)" ∷ []) ∷ reading (bytes "(fail 0 7 0 3)" ∷ []) ∷ reading (bytes "(fail 0 64 0 3)" ∷ [])
    ∷ reading (bytes "(face 0 7 65536)" ∷ bytes "(face" ∷ []) ∷ []) (52 ∷ 52 ∷ 51 ∷ 51 ∷ 51 ∷ [])
    ∷ case 15 (reading (bytes "(face 0 7 3 0)" ∷ []) ∷ reading (bytes "(fail 0 7 3 0 0)" ∷ []) ∷ reading (bytes "(face 0 7 03)" ∷ []) ∷ reading (bytes "(face 0 7 )" ∷ [])
    ∷ reading (bytes "(fail 0 7)" ∷ []) ∷ reading (bytes "(fail 8 9 3 6)" ∷ vertex ∷ []) ∷ reading (times 17 (bytes "(face 0 7 1)")) ∷ []) (51 ∷ 51 ∷ 51 ∷ 51 ∷ 51 ∷ 51 ∷ 52 ∷ [])
    ∷ []

-- The definitions yield each.
pub claims_hold : T (all agrees claims)
unfolding evaluation sheet refusal reading yard face vertex triangle times claims
claims_hold = tt
