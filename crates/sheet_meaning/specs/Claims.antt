-- What the program prints for short texts. Assumes nothing.
use Rattle.std.specs.Prelude.{List, [], ◌∷◌, ◌++◌, T}
use Rattle.lists.specs.Lists.{all}
use Rattle.lists.specs.Table.{Case, case, agrees}
use Rattle.sheet_digits.specs.Bytes.{bytes, lines}
use Rattle.sheet_line_order.specs.Samples.{face, sheet, vertex}
use Rattle.sheet_meaning.specs.Bench.{bench}
use Rattle.sheet_meaning.specs.Evaluation.{evaluation}

-- what is printed of a refusal in the body, of a later line that is refused, and of failures
pub claims : List Case
claims =
    case 11 (bench (sheet (bytes "(fail 0 1 256)" ∷ [])) ++ bench (sheet (bytes "(fail 0 1 256)" ∷ vertex ∷ []))) (lines (bytes "(refused 12)" ∷ bytes "(refused 51)" ∷ []))
    ∷ case 12 (bench (sheet (bytes "(fail 0 9 255)" ∷ face ∷ []))) (lines
    (bytes "(mesh 0 0)" ∷ bytes "(failed 9 0 (upstream 255))" ∷ bytes "(failed 63 0 (empty))" ∷ bytes "(turned 0)" ∷ bytes "(against 0)" ∷ bytes "(split 0)" ∷ bytes "(ok 0)" ∷ bytes "(edges 0)"
    ∷ bytes "(open 0)" ∷ bytes "(over 0)" ∷ bytes "(closed 1)" ∷ []))
    ∷ case 13 (bench (sheet (bytes "(fail 0 9 255 65535)" ∷ bytes "(face 0 7 3)" ∷ []))) (lines
    (bytes "(mesh 0 0)" ∷ bytes "(failed 9 65535 (upstream 255))" ∷ bytes "(failed 7 3 (empty))" ∷ bytes "(turned 0)" ∷ bytes "(against 0)" ∷ bytes "(split 0)" ∷ bytes "(ok 0)" ∷ bytes "(edges 0)"
    ∷ bytes "(open 0)" ∷ bytes "(over 0)" ∷ bytes "(closed 1)" ∷ []))
    ∷ case 14 (bench (sheet (bytes "(face 0 7 65536)" ∷ [])) ++ bench (sheet (bytes "(face 0 7 4294967295)" ∷ [])) ++ bench (sheet (bytes "(face 0 7 4294967296)" ∷ []))
    ++ bench (sheet (bytes "(face 0 64 65536)" ∷ [])) ++ bench (sheet (bytes "(fail 0 7 256 65536)" ∷ [])) ++ bench (sheet (bytes "(face 0 7 65536)" ∷ bytes "(face" ∷ [])))
    (lines (bytes "(refused 15)" ∷ bytes "(refused 15)" ∷ bytes "(refused 51)" ∷ bytes "(refused 52)" ∷ bytes "(refused 12)" ∷ bytes "(refused 51)" ∷ []))
    ∷ []

-- The definitions yield each.
pub claims_hold : T (all agrees claims)
unfolding evaluation sheet face vertex claims
claims_hold = tt
