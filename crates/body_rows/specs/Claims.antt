-- A work area cleared as far as one row needs. Assumes nothing.
use Rattle.std.specs.Prelude.{List, [], ◌∷◌, ◌++◌, replicate, T}
use Rattle.lists.specs.Lists.{all}
use Rattle.lists.specs.Table.{Case, case, agrees}
use Rattle.body_rows.specs.Body.{rows_of, cleared}
use Rattle.body_rows.specs.Evaluation.{evaluation}

-- of 17 words the first 16
pub claims : List Case
claims = case 31 (cleared (rows_of (0 ∷ 0 ∷ 9 ∷ 0 ∷ 0 ∷ 7 ∷ [])) (replicate 17 7)) (replicate 16 0 ++ 7 ∷ []) ∷ []

-- The definitions yield it.
pub claims_hold : T (all agrees claims)
unfolding evaluation claims
claims_hold = tt
