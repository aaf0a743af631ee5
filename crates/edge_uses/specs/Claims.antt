-- The uses of a few edges. Assumes nothing.
use Rattle.std.specs.Prelude.{cond, List, [], ◌∷◌, map, ℕ, T}
use Rattle.lists.specs.Lists.{all}
use Rattle.lists.specs.Table.{Case, case, agrees}
use Rattle.edge_uses.specs.Edges.{Use, first_user, uses_of, is_open, first_uses}
use Rattle.edge_uses.specs.Evaluation.{evaluation}

-- the use of an edge by a row of shell 0
use0 : ℕ → ℕ → ℕ → Use
use0 r a b = record { shell = 0; row = r; start = a; end = b }

-- edge 1–2 by rows 0, 1 and 2, the second time the other way; edge 2–3 once; an edge with equal ends; edge 1–2 in another shell
uses : List Use
uses = use0 0 1 2 ∷ use0 1 2 1 ∷ use0 2 1 2 ∷ use0 2 2 3 ∷ use0 2 3 3 ∷ record { shell = 1; row = 3; start = 1; end = 2 } ∷ []

-- each use's first user, how many uses its edge has, whether it is open; the rows of the first uses
pub claims : List Case
claims =
    case 1 (map (λ u. (first_user uses u).row) uses) (0 ∷ 0 ∷ 0 ∷ 2 ∷ 2 ∷ 3 ∷ [])
    ∷ case 2 (map (uses_of uses) uses) (3 ∷ 3 ∷ 3 ∷ 1 ∷ 1 ∷ 1 ∷ [])
    ∷ case 3 (map (λ u. cond (is_open uses u) 1 0) uses) (0 ∷ 0 ∷ 0 ∷ 1 ∷ 0 ∷ 1 ∷ [])
    ∷ case 4 (map (λ u. u.row) (first_uses [] uses)) (0 ∷ 2 ∷ 3 ∷ [])
    ∷ []

-- The definitions yield each.
pub claims_hold : T (all agrees claims)
unfolding evaluation use0 uses claims
claims_hold = tt
