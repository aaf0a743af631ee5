-- The lines of ranges and failures: the bin stands after the face, 0 too. Assumes nothing.
use Rattle.std.specs.Prelude.{List, [], ◌∷◌, T}
use Rattle.lists.specs.Lists.{all}
use Rattle.lists.specs.Table.{Case, case, agrees}
use Rattle.sheet_digits.specs.Bytes.{bytes, lines}
use Rattle.sheet_answer_rows.specs.Rows.{failure_lines, range_lines}
use Rattle.sheet_answer_text.specs.Evaluation.{evaluation}

-- what is printed of some ranges and of some failures
pub claims : List Case
claims =
    case 1 (range_lines (7 ∷ 0 ∷ 3 ∷ 6 ∷ 8 ∷ 65535 ∷ 0 ∷ 3 ∷ [])) (lines (bytes "(range 7 0 3 6)" ∷ bytes "(range 8 65535 0 3)" ∷ []))
    ∷ case 2 (failure_lines (7 ∷ 0 ∷ 0 ∷ 0 ∷ 0 ∷ 7 ∷ 0 ∷ 3 ∷ 0 ∷ 0 ∷ [])) (lines (bytes "(failed 7 0 (empty))" ∷ bytes "(failed 7 0 (upstream 3))" ∷ []))
    ∷ case 3 (failure_lines (7 ∷ 6 ∷ 256 ∷ 0x4024000000000000 ∷ 0x3FF0000000000000 ∷ [])) (lines (bytes "(failed 7 6 (escape 4024000000000000 3FF0000000000000))" ∷ []))
    ∷ []

-- The definitions yield each.
pub claims_hold : T (all agrees claims)
unfolding evaluation claims
claims_hold = tt
