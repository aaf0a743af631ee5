-- The walk over pairs of rows: colours, the rows of one group breadth first, and a group inverted. Assumes nothing.
use Rattle.std.specs.Prelude.{Bool, true, false, cond, List, [], ◌∷◌, ◌++◌, ℕ, zero, suc, ◌+◌, ◌-◌, length, get_or, set, ltb, eqb}

-- a pair of rows: the row of an edge's first user and that of a later user, and whether the two agree
pub record Pair : Type 0 where
  pub first : ℕ
  pub later : ℕ
  pub agreeing : Bool

-- the colour of a row that no walk has met
abbrev pub unvisited : ℕ
unvisited = 0

-- the colour of a row that stays as it is
abbrev pub plain : ℕ
plain = 1

-- the colour of a row that is reversed
abbrev pub coloured : ℕ
coloured = 2

-- the other of the two colours
abbrev pub opposite : ℕ → ℕ
opposite c = 3 - c

-- a walk so far: its rows in the order found, the colours of all rows, and how often a pair that contradicts them was met
pub record Walk : Type 0 where
  pub rows : List ℕ
  pub colours : List ℕ
  pub against : ℕ

-- A row keeps the colour it gets first, and a pair that contradicts colours adds 1 to against: row m is met where colour c is wanted.
unfoldable pub meet : ℕ → ℕ → Walk → Walk
meet m c w =
    let had = get_or w.colours m unvisited in
    cond (eqb had unvisited) (record { rows = w.rows ++ m ∷ []; colours = set w.colours m c; against = w.against })
    (cond (eqb had c) w (record { rows = w.rows; colours = w.colours; against = w.against + 1 }))

-- a row that a pair leads to, and whether the pair agrees
pub record Neighbour : Type 0 where
  pub row : ℕ
  pub agreeing : Bool

-- where the pairs of row n lead, pairs in recorded order, each met from either end
unfoldable pub neighbours : ℕ → List Pair → List Neighbour
neighbours n [] = []
neighbours n (p ∷ ps) =
    let rest = neighbours n ps in
    cond (eqb p.first n) (record { row = p.later; agreeing = p.agreeing } ∷ rest)
    (cond (eqb p.later n) (record { row = p.first; agreeing = p.agreeing } ∷ rest) rest)

-- the neighbours of a row of colour c are met: of the same colour where the pair agrees, of the opposite where it doesn't
unfoldable pub visit : ℕ → List Neighbour → Walk → Walk
visit c [] w = w
visit c (m ∷ ms) w = visit c ms (meet m.row (cond m.agreeing c (opposite c)) w)

-- Rows are walked breadth first: of the rows found, `done` have been visited, and at most `fuel` are to be.
unfoldable pub walk : List Pair → ℕ → ℕ → Walk → Walk
walk pairs zero done w = w
walk pairs (suc fuel) done w =
    elim (ltb done (length w.rows)) [
      | true ↦ let n = get_or w.rows done 0 in walk pairs fuel (done + 1) (visit (get_or w.colours n unvisited) (neighbours n pairs) w)
      | false ↦ w
    ]

-- the colours with those of some rows inverted
unfoldable pub inverted : List ℕ → List ℕ → List ℕ
inverted [] colours = colours
inverted (n ∷ ns) colours = inverted ns (set colours n (opposite (get_or colours n unvisited)))
