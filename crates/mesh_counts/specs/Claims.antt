-- Small meshes counted, each of which tells a reading of documents 01 and 02 from a near miss. Assumes nothing.
use Rattle.std.specs.Prelude.{cond, List, [], ◌∷◌, ℕ, set, T, pos, neg_ℤ, Float}
use Rattle.lists.specs.Lists.{all}
use Rattle.lists.specs.Table.{Case, case, agrees}
use Rattle.float_steps.specs.Floats.{f32}
use Rattle.point_rules.specs.Points.{bits}
use Rattle.body_rows.specs.Given.{Given, at, below, row, given_positions, given_indices, K6}
use Rattle.mesh_counts.specs.Counts.{counts_of, closed_mesh}
use Rattle.mesh_counts.specs.Evaluation.{evaluation}

-- −0.0 at some places
minus_zeros : List ℕ → List Float → List Float
minus_zeros [] ps = ps
minus_zeros (k ∷ ks) ps = minus_zeros ks (set ps k (f32 0x80000000))

-- edges, open, over, closed, with −0.0 at some places
counts_with : List ℕ → List Given → List ℕ
counts_with ks gs =
    let ps = minus_zeros ks (given_positions gs) in
    let c = counts_of bits ps (given_indices gs) in
    c.edges ∷ c.opens ∷ c.overs ∷ cond (closed_mesh ps (given_indices gs)) 1 0 ∷ []

-- and as the mesh is
counts : List Given → List ℕ
counts gs = counts_with [] gs

-- two tetrahedra that share an edge: its points stand twice
neighbours : List Given
neighbours =
    row 0
    (at 0 0 0 ∷ at 1 0 0 ∷ at 0 1 0 ∷ at 0 0 1 ∷ at 0 0 0 ∷ at 1 0 0 ∷ below 0 1 0 ∷ below 0 1 1 ∷ [])
    (0 ∷ 2 ∷ 1 ∷ 0 ∷ 1 ∷ 3 ∷ 0 ∷ 3 ∷ 2 ∷ 1 ∷ 2 ∷ 3 ∷ 4 ∷ 6 ∷ 5 ∷ 4 ∷ 5 ∷ 7 ∷ 4 ∷ 7 ∷ 6 ∷ 5 ∷ 6 ∷ 7 ∷ [])
    ∷ []

-- one triangle, and one with two corners at the same point
pinched : List Given
pinched = row 0 (at 0 0 0 ∷ at 1 0 0 ∷ at 0 1 0 ∷ at 5 0 0 ∷ at 5 0 0 ∷ at 6 0 0 ∷ []) (0 ∷ 1 ∷ 2 ∷ 3 ∷ 4 ∷ 5 ∷ []) ∷ []

-- a solid across the plane x = 0: the side of 1, the side of −1, and between them three points that stand once for each
hopper : List Given
hopper =
    row 0
    (at 1 0 0 ∷ at 0 0 0 ∷ at 0 1 0 ∷ at 0 0 1 ∷ (neg_ℤ (pos 1) ∷ pos 0 ∷ pos 0 ∷ []) ∷ at 0 0 0 ∷ at 0 1 0 ∷ at 0 0 1 ∷ [])
    (0 ∷ 1 ∷ 2 ∷ 0 ∷ 2 ∷ 3 ∷ 0 ∷ 3 ∷ 1 ∷ 4 ∷ 6 ∷ 5 ∷ 4 ∷ 7 ∷ 6 ∷ 4 ∷ 5 ∷ 7 ∷ [])
    ∷ []

-- a triangle with two corners at (0, 0, 0)
sliver : List Given
sliver = row 0 (at 0 0 0 ∷ at 0 0 0 ∷ at 1 0 0 ∷ []) (0 ∷ 1 ∷ 2 ∷ []) ∷ []

-- 1: K6 is closed. 2: the edge that the two share has four uses. 3: the edge with equal ends does not count, and the other two are one edge of two uses.
-- 5 and 6: the hopper without −0.0, and with it as x of the second side's three points: open edges by bits, and closed. 7: the two solids touch under
-- opposite zeros of y: nothing open or over by bits, and not closed. 8: for closed, the edge between the two zeros has equal ends and does not count.
pub claims : List Case
claims =
    case 1 (counts K6) (6 ∷ 0 ∷ 0 ∷ 1 ∷ [])
    ∷ case 2 (counts neighbours) (11 ∷ 0 ∷ 1 ∷ 0 ∷ [])
    ∷ case 3 (counts pinched) (4 ∷ 3 ∷ 0 ∷ 0 ∷ [])
    ∷ case 4 (counts []) (0 ∷ 0 ∷ 0 ∷ 1 ∷ [])
    ∷ case 5 (counts hopper) (9 ∷ 0 ∷ 0 ∷ 1 ∷ [])
    ∷ case 6 (counts_with (15 ∷ 18 ∷ 21 ∷ []) hopper) (12 ∷ 6 ∷ 0 ∷ 1 ∷ [])
    ∷ case 7 (counts_with (13 ∷ 16 ∷ []) neighbours) (12 ∷ 0 ∷ 0 ∷ 0 ∷ [])
    ∷ case 8 (counts_with (3 ∷ []) sliver) (3 ∷ 3 ∷ 0 ∷ 1 ∷ [])
    ∷ []

-- The definitions yield each.
pub claims_hold : T (all agrees claims)
unfolding evaluation minus_zeros counts_with counts neighbours pinched hopper sliver claims
claims_hold = tt
