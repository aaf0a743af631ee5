-- Small bodies stitched, each of which tells a reading of document 01 from a near miss. Assumes nothing.
use Rattle.std.specs.Prelude.{false, List, [], ◌∷◌, ◌++◌, map, ℕ, ◌*◌, ◌^◌, take, drop, replicate, set, T, Float}
use Rattle.std.specs.Float.{nan, binary64}
use Rattle.std.specs.Float.Ieee.{round}
use Rattle.lists.specs.Lists.{all}
use Rattle.lists.specs.Table.{Case, case, agrees}
use Rattle.float_steps.specs.Floats.{f32, f64, bits32, bits64}
use Rattle.point_rules.specs.Points.{key}
use Rattle.body_rows.specs.Body.{row_width, Row, first_failing}
use Rattle.body_rows.specs.Given.{Given, at, below, row, triangle, triangle_in, given_table, given_positions, given_indices, K8}
use Rattle.patch_geometry.specs.Geometry.{sub, zero64, one64}
use Rattle.stitch_projection.specs.Projection.{near_end, least_length, far_end}
use Rattle.stitch_splits.specs.Splits.{near_last}
use Rattle.stitch_definition.specs.Slices.{StitchSlices, AfterStitch, stitch_checks}
use Rattle.stitch_definition.specs.Stitch.{stitch_of}
use Rattle.stitch_definition.specs.Evaluation.{evaluation}

-- slices with room for 9 rows, 99 vertices and 99 indices
unfoldable pub roomy : StitchSlices
roomy =
    record { table = replicate (row_width * 9) 9; positions = replicate 297 zero64; normals = replicate 297 zero64; indices = replicate 99 9; work = replicate 999 7 }

-- a body stitched, its normals being its positions once more
unfoldable pub stitch_given : List Given → Float → AfterStitch
stitch_given gs sag = stitch_of key (given_table gs) (given_positions gs) (given_positions gs) (given_indices gs) sag roomy

-- the splits, V, I, and the first indices
stitched : ℕ → List Given → Float → List ℕ
stitched n gs sag = let s = stitch_given gs sag in s.splits ∷ s.vertices ∷ s.indices ∷ take n s.slices.indices

-- the bits of the coordinates of vertex n
vertex : ℕ → AfterStitch → List ℕ
vertex n s = map bits32 (take 3 (drop (3 * n) s.slices.positions))

-- no room for a vertex
tight : StitchSlices
tight = record { table = replicate (row_width * 9) 9; positions = []; normals = replicate 297 zero64; indices = replicate 99 9; work = replicate 999 7 }

-- a row beyond the limit of 13, with more indices than there is room for
wide : Row
wide = record { shell = 0; face = 0; outcome = 0; vertices = 262145; indices = 300; bin = 0 }

-- 0.25
quarter : Float
quarter = f64 0x3FD0000000000000

-- 2.0
two : Float
two = f64 0x4000000000000000

-- 6.0
six : Float
six = f64 0x4018000000000000

-- K8 with −0.0 for the second of B's two corners at (5, 0, 0): of several loose points with one key the last stands
two_zeros : AfterStitch
two_zeros = stitch_of key (given_table K8) (set (given_positions K8) 19 (f32 0x80000000)) (given_positions K8) (given_indices K8) quarter roomy

-- a point in the middle of A's second edge, which A's first edge finds at distance 5: placed on the second, and counted once
nearest : List Given
nearest = triangle 0 (at 0 0 0) (at 10 0 0) (at 0 10 0) ∷ triangle 1 (at 5 5 0) (at 50 50 0) (at 50 40 0) ∷ []

-- two points with one parameter on A's first edge: two splits, and the one with the lower key is kept
tied : List Given
tied = triangle 0 (at 0 0 0) (at 10000 0 0) (at 0 10000 0) ∷ triangle 1 (at 5000 0 0) (at 5000 0 1) (below 5000 9000 0) ∷ []

-- a point at distance 1 from A's first edge
distant : List Given
distant = triangle 0 (at 0 0 0) (at 10 0 0) (at 0 10 0) ∷ triangle 1 (below 5 1 0) (below 5 20 0) (below 50 20 0) ∷ []

-- two rows of two shells that share an edge, and a third row with a corner on it: the edge isn't open
shells : List Given
shells =
    triangle_in 0 0 (at 0 0 0) (at 10 0 0) (at 0 10 0)
    ∷ triangle_in 1 1 (at 10 0 0) (at 0 0 0) (below 0 10 0)
    ∷ triangle_in 2 2 (at 5 0 0) (at 5 1 50) (at 6 1 50)
    ∷ []

-- a tetrahedron without its base, whose apex lies on A's first edge: all three corners of an open edge's triangle are loose points
apex : List Given
apex =
    triangle 0 (at 0 0 0) (at 10 0 0) (at 0 10 0)
    ∷ row 1 (below 4 20 0 ∷ below 6 20 0 ∷ below 5 20 5 ∷ at 5 0 0 ∷ []) (0 ∷ 1 ∷ 3 ∷ 1 ∷ 2 ∷ 3 ∷ 2 ∷ 0 ∷ 3 ∷ [])
    ∷ []

-- an end of A's first edge, of length 0.125, and a loose point 4e-7 from it with the same key: no split, though it projects into the edge
same_key : List Given
same_key = triangle 0 (at 0 0 0) (at 0 0 0) (at 0 1 0) ∷ triangle 1 (at 0 0 0) (below 0 5 0) (below 3 5 0) ∷ []

-- its splits, with a sag of 0.0625
same_key_splits : ℕ
same_key_splits =
    let ps = set (set (given_positions same_key) 3 (f32 0x3E000000)) 9 (f32 0x34D6BF95) in
    (stitch_of key (given_table same_key) ps ps (given_indices same_key) (f64 0x3FB0000000000000) roomy).splits

-- a fifth along A's first edge, whose ends have the normals (1, 0, 0) and (0, 1, 0)
fifth : List Given
fifth = triangle 0 (at 0 0 0) (at 10 0 0) (at 0 10 0) ∷ triangle 1 (at 2 0 0) (below 2 20 0) (below 3 20 0) ∷ []

-- its normals
fifth_normals : List Float
fifth_normals = map f32 (0x3F800000 ∷ 0 ∷ 0 ∷ 0 ∷ 0x3F800000 ∷ 0 ∷ 0 ∷ 0 ∷ 0x3F800000 ∷ []) ++ replicate 9 one64

-- the new normal's bits
mixed_normal : List ℕ
mixed_normal = map bits32 (take 3 (drop 9 (stitch_of key (given_table fifth) (given_positions fifth) fifth_normals (given_indices fifth) quarter roomy).slices.normals))

-- K8 refused for want of room: the number, and the table as it was
refused : List ℕ
refused = let s = stitch_of key (given_table K8) (given_positions K8) (given_positions K8) (given_indices K8) quarter tight in s.refusal ∷ take 2 s.slices.table

-- the constants as they are written and as they are meant: 1e-6, 1e-9 and 1e-30 to nearest, and the f64 difference 1 − 1e-6
constants : List Float
constants = near_end ∷ near_last ∷ least_length ∷ far_end ∷ []

-- the same computed
meant : List Float
meant = round binary64 false 1 (10 ^ 6) ∷ round binary64 false 1 (10 ^ 9) ∷ round binary64 false 1 (10 ^ 30) ∷ sub one64 (round binary64 false 1 (10 ^ 6)) ∷ []

-- splits, V, I and the first indices; new vertices; the new normal; what stands behind the written indices; a refusal; 33 before 32
pub claims : List Case
claims =
    case 1 (map bits64 constants) (map bits64 meant)
    ∷ case 8 (stitched 6 K8 quarter) (1 ∷ 10 ∷ 12 ∷ 0 ∷ 3 ∷ 1 ∷ 0 ∷ 1 ∷ 2 ∷ [])
    ∷ case 8 (stitched 3 K8 zero64 ++ stitched 3 K8 nan) (0 ∷ 9 ∷ 9 ∷ 0 ∷ 1 ∷ 2 ∷ 0 ∷ 9 ∷ 9 ∷ 0 ∷ 1 ∷ 2 ∷ [])
    ∷ case 11 (vertex 3 two_zeros) (0x40A00000 ∷ 0x80000000 ∷ 0 ∷ [])
    ∷ case 12 (stitched 6 nearest six) (1 ∷ 7 ∷ 9 ∷ 0 ∷ 1 ∷ 3 ∷ 0 ∷ 3 ∷ 2 ∷ [])
    ∷ case 13 (stitched 6 tied two ++ vertex 3 (stitch_given tied two)) (2 ∷ 7 ∷ 9 ∷ 0 ∷ 3 ∷ 1 ∷ 0 ∷ 1 ∷ 2 ∷ 0x459C4000 ∷ 0 ∷ 0 ∷ [])
    ∷ case 14 (stitched 0 distant one64 ++ stitched 0 distant quarter) (1 ∷ 7 ∷ 9 ∷ 0 ∷ 6 ∷ 6 ∷ [])
    ∷ case 15 (stitched 0 shells quarter) (0 ∷ 9 ∷ 9 ∷ [])
    ∷ case 16 (stitched 6 apex quarter) (1 ∷ 8 ∷ 15 ∷ 0 ∷ 3 ∷ 1 ∷ 0 ∷ 1 ∷ 2 ∷ [])
    ∷ case 18 (same_key_splits ∷ []) (0 ∷ [])
    ∷ case 17 mixed_normal (0x3F785B42 ∷ 0x3E785B42 ∷ 0 ∷ [])
    ∷ case 19 (take (row_width * 2) (stitch_given K8 quarter).slices.table) (0 ∷ 0 ∷ 0 ∷ 4 ∷ 6 ∷ 100 ∷ 0 ∷ 1 ∷ 0 ∷ 6 ∷ 6 ∷ 101 ∷ [])
    ∷ case 20 (take 2 (drop 12 (stitch_given K8 quarter).slices.indices)) (9 ∷ 9 ∷ [])
    ∷ case 32 refused (32 ∷ 9 ∷ 9 ∷ [])
    ∷ case 33 (first_failing (stitch_checks (wide ∷ []) roomy) ∷ []) (33 ∷ [])
    ∷ []

-- The definitions yield each.
pub claims_hold : T (all agrees claims)
unfolding evaluation roomy stitch_given stitched vertex tight wide refused quarter two six two_zeros nearest tied distant shells apex fifth fifth_normals mixed_normal same_key same_key_splits constants meant
    claims
claims_hold = tt
