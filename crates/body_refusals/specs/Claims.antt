-- The checks on small bodies that stand at their edges. Assumes nothing.
use Rattle.std.specs.Prelude.{List, [], ◌∷◌, ◌++◌, ℕ, ◌*◌, length, replicate, take, T, Float}
use Rattle.std.specs.Float.{nan}
use Rattle.float_steps.specs.Floats.{f32}
use Rattle.lists.specs.Lists.{all}
use Rattle.lists.specs.Table.{Case, case, agrees}
use Rattle.body_rows.specs.Body.{row_width, first_failing}
use Rattle.body_refusals.specs.BodyChecks.{body_checks}
use Rattle.body_rows.specs.Given.{Given, at, triangle, given_table, given_positions, given_indices}
use Rattle.body_refusals.specs.Evaluation.{evaluation}

-- the refusal of a body with so many words of work area
refusal : List ℕ → List Float → List Float → List ℕ → ℕ → ℕ
refusal table ps ns is words = first_failing (body_checks table ps ns is words)

-- one triangle
one : List Given
one = triangle 5 (at 0 0 0) (at 1 0 0) (at 0 1 0) ∷ []

-- the refusal of the triangle with other indices, and so many words
refusal_of : List ℕ → ℕ → ℕ
refusal_of is words = refusal (0 ∷ 5 ∷ 0 ∷ 3 ∷ length is ∷ 65535 ∷ []) (given_positions one) (given_positions one) is words

-- a failed row behind another, whose bin is too high
failed_last : List ℕ
failed_last = 0 ∷ 0 ∷ 7 ∷ 0 ∷ 0 ∷ 65535 ∷ 0 ∷ 0 ∷ 7 ∷ 0 ∷ 0 ∷ 65536 ∷ []

-- a row of four indices, whose bin is too high
part_triangle : List ℕ
part_triangle = 0 ∷ 5 ∷ 0 ∷ 3 ∷ 4 ∷ 65536 ∷ []

-- the triangle's positions, its last number having these bits
far : ℕ → List Float
far b = take 8 (given_positions one) ++ f32 b ∷ []

-- a row of three vertices that no triangle uses
unused : List ℕ
unused = 0 ∷ 5 ∷ 0 ∷ 3 ∷ 0 ∷ 0 ∷ []

-- what passes and what doesn't, check by check
pub claims : List Case
claims =
    case 11 (refusal (replicate (row_width * 4096) 0) [] [] [] 65536 ∷ refusal (replicate (row_width * 4097) 0) [] [] [] 99999 ∷ refusal (0 ∷ []) [] [] [] 9 ∷ []) (0 ∷ 11 ∷ 11 ∷ [])
    ∷ case 12 (refusal (0 ∷ 0 ∷ 255 ∷ 0 ∷ 0 ∷ 65535 ∷ []) [] [] [] 16 ∷ refusal (0 ∷ 0 ∷ 256 ∷ 0 ∷ 0 ∷ 65536 ∷ []) [] [] [] 16 ∷ []) (0 ∷ 12 ∷ [])
    ∷ case 12 (refusal (0 ∷ 0 ∷ 1 ∷ 0 ∷ 3 ∷ 0 ∷ []) [] [] [] 99 ∷ []) (12 ∷ [])
    ∷ case 13 (refusal (0 ∷ 0 ∷ 0 ∷ 262144 ∷ 0 ∷ 65536 ∷ []) [] [] [] 16 ∷ refusal (0 ∷ 0 ∷ 0 ∷ 262145 ∷ 0 ∷ 65536 ∷ []) [] [] [] 16 ∷ []) (14 ∷ 13 ∷ [])
    ∷ case 15 (refusal failed_last [] [] [] 0 ∷ refusal failed_last [] [] (0 ∷ []) 0 ∷ []) (15 ∷ 14 ∷ [])
    ∷ case 15 (refusal part_triangle (given_positions one) (given_positions one) (0 ∷ 1 ∷ 2 ∷ 3 ∷ []) 0 ∷ []) (15 ∷ [])
    ∷ case 21 (refusal_of (0 ∷ 1 ∷ 2 ∷ 3 ∷ []) 99 ∷ refusal_of (0 ∷ 1 ∷ 2 ∷ []) 99 ∷ []) (21 ∷ 0 ∷ [])
    ∷ case 22 (refusal_of (0 ∷ 1 ∷ 3 ∷ []) 99 ∷ refusal (given_table one) (given_positions one) (replicate 9 nan) (0 ∷ 1 ∷ 3 ∷ []) 99 ∷ []) (22 ∷ 22 ∷ [])
    ∷ case 23 (refusal (given_table one) (given_positions one) (replicate 9 nan) (given_indices one) 0 ∷ []) (23 ∷ [])
    ∷ case 24 (refusal (given_table one) (far 0x550637BE) (given_positions one) (given_indices one) 0 ∷ refusal (given_table one) (far 0xD50637BE) (given_positions one) (given_indices one) 0 ∷ [])
    (24 ∷ 24 ∷ [])
    ∷ case 24 (refusal (given_table one) (far 0x550637BD) (given_positions one) (given_indices one) 0 ∷ refusal (given_table one) (given_positions one) (far 0x550637BE) (given_indices one) 99 ∷ [])
    (31 ∷ 0 ∷ [])
    ∷ case 24 (refusal (given_table one) (far 0x550637BE) (replicate 9 nan) (given_indices one) 0 ∷ refusal unused (far 0xD50637BE) (given_positions one) [] 99 ∷ []) (23 ∷ 24 ∷ [])
    ∷ case 31 (refusal_of (0 ∷ 1 ∷ 2 ∷ []) 75 ∷ refusal_of (0 ∷ 1 ∷ 2 ∷ []) 76 ∷ []) (31 ∷ 0 ∷ [])
    ∷ []

-- The definitions yield each.
pub claims_hold : T (all agrees claims)
unfolding evaluation refusal one refusal_of failed_last part_triangle far unused claims
claims_hold = tt
