-- Small lists of pairs walked, each of which tells a reading of document 01 from a near miss. Assumes nothing.
use Rattle.std.specs.Prelude.{Bool, true, false, List, [], ◌∷◌, ◌++◌, ℕ, set, replicate, T}
use Rattle.lists.specs.Lists.{all}
use Rattle.lists.specs.Table.{Case, case, agrees}
use Rattle.turn_walk.specs.Walk.{Pair, Walk, unvisited, plain, walk, inverted}
use Rattle.turn_walk.specs.Uses.{Uses, pairs_by}
use Rattle.turn_walk.specs.Evaluation.{evaluation}

-- a pair of two rows
pair : ℕ → ℕ → Bool → Pair
pair a b agree = record { first = a; later = b; agreeing = agree }

-- the walk from row 0 over m rows
from : ℕ → List Pair → Walk
from m ps = walk ps m 0 (record { rows = 0 ∷ []; colours = set (replicate m unvisited) 0 plain; against = 0 })

-- against, then the rows found, then all colours
walked : ℕ → List Pair → List ℕ
walked m ps = let w = from m ps in w.against ∷ (w.rows ++ w.colours)

-- K7: two pairs between two rows, the first agreeing and the second not
contradiction : List Pair
contradiction = pair 0 1 true ∷ pair 0 1 false ∷ []

-- K7 as uses: uses 3 and 6 record these pairs; use 9 has equal ends, and pairs nothing
contradicting : Uses
contradicting =
    record {
      count = 10;
      first = 0 ∷ 1 ∷ 2 ∷ 0 ∷ 4 ∷ 5 ∷ 1 ∷ 7 ∷ 8 ∷ 2 ∷ [];
      row = 0 ∷ 0 ∷ 0 ∷ 1 ∷ 1 ∷ 1 ∷ 1 ∷ 1 ∷ 1 ∷ 1 ∷ [];
      run = 0 ∷ 0 ∷ 1 ∷ 1 ∷ 0 ∷ 1 ∷ 0 ∷ 0 ∷ 1 ∷ 2 ∷ [];
    }

-- the row behind row 1 is found after row 2
branches : List Pair
branches = pair 0 1 true ∷ pair 0 2 false ∷ pair 1 3 false ∷ pair 2 4 false ∷ []

-- three rows in a circle, of which the last two disagree, and a row apart
circle : List Pair
circle = pair 0 2 false ∷ pair 0 1 false ∷ pair 1 2 false ∷ []

-- against, rows and colours of each walk, and the colours of the second with its group inverted
pub claims : List Case
claims =
    case 7 (walked 2 contradiction) (2 ∷ 0 ∷ 1 ∷ 1 ∷ 1 ∷ [])
    ∷ case 7 (walked 2 (pairs_by contradicting)) (2 ∷ 0 ∷ 1 ∷ 1 ∷ 1 ∷ [])
    ∷ case 18 (walked 5 branches) (0 ∷ 0 ∷ 1 ∷ 2 ∷ 3 ∷ 4 ∷ 1 ∷ 1 ∷ 2 ∷ 2 ∷ 1 ∷ [])
    ∷ case 19 (walked 4 circle) (2 ∷ 0 ∷ 2 ∷ 1 ∷ 1 ∷ 2 ∷ 2 ∷ 0 ∷ [])
    ∷ case 20 (let w = from 4 circle in inverted w.rows w.colours) (2 ∷ 1 ∷ 1 ∷ 0 ∷ [])
    ∷ []

-- The definitions yield each.
pub claims_hold : T (all agrees claims)
unfolding evaluation pair from walked contradiction contradicting branches circle claims
claims_hold = tt
