-- Small bodies turned, each of which tells a reading of document 01 from a near miss. Assumes nothing.
use Rattle.std.specs.Prelude.{List, [], ◌∷◌, map, ℕ, take, replicate, T}
use Rattle.lists.specs.Lists.{all}
use Rattle.lists.specs.Table.{Case, case, agrees}
use Rattle.float_steps.specs.Floats.{bits32}
use Rattle.point_rules.specs.Points.{key}
use Rattle.body_rows.specs.Given.{Given, at, below, row, triangle, triangle_in, given_table, given_positions, given_indices, K6-reversed, K7}
use Rattle.turn_definition.specs.Orient.{AfterTurn, turn_of}
use Rattle.turn_definition.specs.Evaluation.{evaluation}

-- a body turned, its normals being its positions once more
unfoldable pub turn_given : List Given → AfterTurn
turn_given gs = turn_of key (given_table gs) (given_positions gs) (given_positions gs) (given_indices gs) (replicate 999 7)

-- turned, against, and the indices left
turned : List Given → List ℕ
turned gs = let t = turn_given gs in t.turned ∷ t.against ∷ t.indices

-- the bits of the first normals left
normals : ℕ → List Given → List ℕ
normals n gs = take n (map bits32 (turn_given gs).normals)

-- four rows that use one edge, all the same way: each later one is paired with row 0, and not with the row before it
pinwheel : List Given
pinwheel =
    triangle 0 (at 0 0 0) (at 0 0 1) (at 1 0 0)
    ∷ triangle 1 (at 0 0 0) (at 0 0 1) (at 0 1 0)
    ∷ triangle 2 (at 0 0 0) (at 0 0 1) (below 0 1 0)
    ∷ triangle 3 (at 0 0 0) (at 0 0 1) (below 1 1 0)
    ∷ []

-- a Möbius strip of five rows, flattened: an odd cycle of pairs that disagree
möbius : List Given
möbius =
    triangle 0 (at 0 0 0) (at 4 0 0) (at 5 3 0)
    ∷ triangle 1 (at 4 0 0) (at 5 3 0) (at 2 5 0)
    ∷ triangle 2 (at 5 3 0) (at 2 5 0) (at 0 3 0)
    ∷ triangle 3 (at 2 5 0) (at 0 3 0) (at 0 0 0)
    ∷ triangle 4 (at 0 3 0) (at 0 0 0) (at 4 0 0)
    ∷ []

-- two flat rows that run the same way along an edge, in one shell or in two
flat : ℕ → ℕ → List Given
flat r s = triangle_in r 0 (at 0 0 0) (at 2 0 0) (at 0 2 0) ∷ triangle_in s 1 (at 0 0 0) (at 2 0 0) (below 0 2 0) ∷ []

-- two flat rows that agree
agreeing : List Given
agreeing = triangle 0 (at 0 0 0) (at 2 0 0) (at 0 2 0) ∷ triangle 1 (at 2 0 0) (at 0 0 0) (below 0 2 0) ∷ []

-- two flat rows of one triangle against one of two triangles: as many indices on either side
weighed : List Given
weighed =
    row 0 (at 0 0 0 ∷ at 2 0 0 ∷ at 2 2 0 ∷ at 0 2 0 ∷ []) (0 ∷ 1 ∷ 2 ∷ 0 ∷ 2 ∷ 3 ∷ [])
    ∷ triangle 1 (at 0 0 0) (at 2 0 0) (below 1 2 0)
    ∷ triangle 2 (at 2 0 0) (at 2 2 0) (at 4 1 0)
    ∷ []

-- two tetrahedra apart, the smaller one reversed, both with a triangle of one point: an edge with equal ends pairs nothing
apart : List Given
apart =
    row 0 (at 0 0 0 ∷ at 2 0 0 ∷ at 0 2 0 ∷ at 0 0 2 ∷ at 9 9 9 ∷ []) (0 ∷ 2 ∷ 1 ∷ 0 ∷ 1 ∷ 3 ∷ 0 ∷ 3 ∷ 2 ∷ 1 ∷ 2 ∷ 3 ∷ 4 ∷ 4 ∷ 4 ∷ [])
    ∷ row 1 (at 4 0 0 ∷ at 5 0 0 ∷ at 4 1 0 ∷ at 4 0 1 ∷ at 9 9 9 ∷ []) (0 ∷ 1 ∷ 2 ∷ 0 ∷ 3 ∷ 1 ∷ 0 ∷ 2 ∷ 3 ∷ 1 ∷ 3 ∷ 2 ∷ 4 ∷ 4 ∷ 4 ∷ [])
    ∷ []

-- turned rows, against, and the indices as they are left
pub claims : List Case
claims =
    case 6 (turned K6-reversed) (1 ∷ 0 ∷ 0 ∷ 2 ∷ 1 ∷ 0 ∷ 1 ∷ 3 ∷ 0 ∷ 3 ∷ 2 ∷ 1 ∷ 2 ∷ 3 ∷ [])
    ∷ case 6 (normals 6 K6-reversed) (0x80000000 ∷ 0x80000000 ∷ 0x80000000 ∷ 0xBF800000 ∷ 0x80000000 ∷ 0x80000000 ∷ [])
    ∷ case 7 (turned K7) (0 ∷ 2 ∷ 0 ∷ 1 ∷ 2 ∷ 0 ∷ 1 ∷ 2 ∷ 3 ∷ 4 ∷ 5 ∷ [])
    ∷ case 11 (turned pinwheel) (1 ∷ 0 ∷ 0 ∷ 2 ∷ 1 ∷ 0 ∷ 1 ∷ 2 ∷ 0 ∷ 1 ∷ 2 ∷ 0 ∷ 1 ∷ 2 ∷ [])
    ∷ case 12 (turned möbius) (2 ∷ 2 ∷ 0 ∷ 1 ∷ 2 ∷ 0 ∷ 2 ∷ 1 ∷ 0 ∷ 1 ∷ 2 ∷ 0 ∷ 1 ∷ 2 ∷ 0 ∷ 2 ∷ 1 ∷ [])
    ∷ case 13 (turned (flat 0 0)) (1 ∷ 0 ∷ 0 ∷ 1 ∷ 2 ∷ 0 ∷ 2 ∷ 1 ∷ [])
    ∷ case 14 (turned (flat 0 1)) (0 ∷ 0 ∷ 0 ∷ 1 ∷ 2 ∷ 0 ∷ 1 ∷ 2 ∷ [])
    ∷ case 15 (turned agreeing) (0 ∷ 0 ∷ 0 ∷ 1 ∷ 2 ∷ 0 ∷ 1 ∷ 2 ∷ [])
    ∷ case 16 (turned weighed) (2 ∷ 0 ∷ 0 ∷ 1 ∷ 2 ∷ 0 ∷ 2 ∷ 3 ∷ 0 ∷ 2 ∷ 1 ∷ 0 ∷ 2 ∷ 1 ∷ [])
    ∷ case 17 (take 2 (turned apart)) (1 ∷ 0 ∷ [])
    ∷ case 18 (turned (flat 1 1)) (1 ∷ 0 ∷ 0 ∷ 1 ∷ 2 ∷ 0 ∷ 2 ∷ 1 ∷ [])
    ∷ []

-- The definitions yield each.
pub claims_hold : T (all agrees claims)
unfolding evaluation turn_given turned normals pinwheel möbius flat agreeing weighed apart claims
claims_hold = tt
