-- Small rings fanned and the vertices of edges numbered, each of which tells a reading of document 01 from a near miss. Assumes nothing.
use Rattle.std.specs.Prelude.{List, [], ◌∷◌, ◌++◌, ℕ, T}
use Rattle.lists.specs.Lists.{all}
use Rattle.lists.specs.Table.{Case, case, agrees}
use Rattle.stitch_rings.specs.Rings.{fan, numbers_of}
use Rattle.stitch_rings.specs.Evaluation.{evaluation}

-- the edges of five new vertices, the first of which is vertex 7: one on edge 0, three on edge 1, one on edge 2
five : List ℕ
five = 0 ∷ 1 ∷ 1 ∷ 1 ∷ 2 ∷ []

-- 1: corners alone are one triangle. 2: a new vertex on edge 0 and one on edge 2, and all triangles are from corner 0. 3: fewer than three vertices make none.
-- 4: each edge has its own vertices, in order, and 5: an edge without one has none.
pub claims : List Case
claims =
    case 1 (fan (0 ∷ 1 ∷ 2 ∷ [])) (0 ∷ 1 ∷ 2 ∷ [])
    ∷ case 2 (fan (0 ∷ 3 ∷ 1 ∷ 2 ∷ 4 ∷ [])) (0 ∷ 3 ∷ 1 ∷ 0 ∷ 1 ∷ 2 ∷ 0 ∷ 2 ∷ 4 ∷ [])
    ∷ case 3 (fan [] ++ fan (0 ∷ []) ++ fan (0 ∷ 1 ∷ [])) []
    ∷ case 4 (numbers_of 0 7 five ++ numbers_of 1 7 five ++ numbers_of 2 7 five) (7 ∷ 8 ∷ 9 ∷ 10 ∷ 11 ∷ [])
    ∷ case 5 (numbers_of 1 7 (0 ∷ 2 ∷ 2 ∷ [])) []
    ∷ []

-- The definitions yield each.
pub claims_hold : T (all agrees claims)
unfolding evaluation five claims
claims_hold = tt
