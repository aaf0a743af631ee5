-- Files and meshes at the edges of the refusals. Assumes nothing.
use mathlib.Core.List.{List, [], ◌∷◌, ◌++◌, map, flat_map}
use Rattle.std.specs.Prelude.{ℕ, length, replicate, take, T, Float}
use Rattle.std.specs.Float.{nan}
use Rattle.float_steps.specs.Floats.{f32, bits32}
use Rattle.lists.specs.Lists.{all}
use Rattle.lists.specs.Table.{Case, case, agrees}
use Rattle.stl_definition.specs.Bytes.{word}
use Rattle.stl_definition.specs.Write.{Held, in_two, AfterWrite, write_of}
use Rattle.stl_definition.specs.Read.{ReadSlices, AfterRead, read_of}
use Rattle.stl_definition.specs.Evaluation.{evaluation}

-- ---- files

-- a file with such a header, whose normals and last bytes are all one byte
filled : List ℕ → ℕ → ℕ → List (List ℕ) → List ℕ
filled header fill count facets = header ++ word count ++ flat_map (λ ws. replicate 12 fill ++ flat_map word ws ++ replicate 2 fill) facets

-- these and the header zero
plain : ℕ → List (List ℕ) → List ℕ
plain count facets = filled (replicate 80 0) 0 count facets

-- a header that says `solid`, and normals that are NaN
solid : ℕ → List (List ℕ) → List ℕ
solid count facets = filled (115 ∷ 111 ∷ 108 ∷ 105 ∷ 100 ∷ replicate 75 32) 0xFF count facets

-- the bits of nine coordinates: both zeros, subnormals on either side of them, the largest on either side, and 1.0
edge_bits : List ℕ
edge_bits = 0 ∷ 0x80000000 ∷ 1 ∷ 0x80000001 ∷ 0x007FFFFF ∷ 0x7F7FFFFF ∷ 0xFF7FFFFF ∷ 0x3F800000 ∷ 0x80000002 ∷ []

-- nine coordinates, the last with such bits
ending : ℕ → List ℕ
ending w = take 8 edge_bits ++ w ∷ []

-- slices of such lengths
lent : ℕ → ℕ → ℕ → ℕ → ReadSlices
lent t p n i = record { table = replicate t 9; positions = replicate p (f32 7); normals = replicate n (f32 7); indices = replicate i 9 }

-- slices that are long enough for two triangles
roomy : ReadSlices
roomy = lent 7 19 19 7

-- the refusal of a file
refusal : List ℕ → ReadSlices → ℕ
refusal file out = (read_of file out).refusal

-- everything that the reader leaves, as numbers
left : AfterRead → List ℕ
left r =
    r.refusal ∷ r.vertices ∷ r.indices ∷ [] ++ r.slices.table ++ map bits32 r.slices.positions ++ map bits32 r.slices.normals ++ r.slices.indices

-- the refusals at their edges and in their order; 73 needs a file of 1.6 MB and is a law (`too_many`)
pub reads : List Case
reads =
    case 72 (refusal (replicate 83 0) roomy ∷ refusal (replicate 84 0) roomy ∷ refusal (plain 1 []) roomy ∷ refusal (plain 0x80000000 []) roomy ∷ []) (72 ∷ 0 ∷ 72 ∷ 72 ∷ [])
    ∷ case 72 (refusal (plain 1 (edge_bits ∷ [])) roomy ∷ refusal (plain 1 (edge_bits ∷ []) ++ 0 ∷ []) roomy ∷ refusal (take 133 (plain 1 (edge_bits ∷ []))) roomy ∷ []) (0 ∷ 72 ∷ 72 ∷ [])
    ∷ case 72 (refusal (plain 0 (edge_bits ∷ [])) roomy ∷ refusal (plain 2 (edge_bits ∷ [])) roomy ∷ refusal (plain 0x80000001 (edge_bits ∷ [])) roomy ∷ refusal [] roomy ∷ []) (72 ∷ 72 ∷ 72 ∷ 72 ∷ [])
    ∷ case 72 (refusal (plain 32001 []) roomy ∷ refusal (plain 2 (edge_bits ∷ ending 0x7F800000 ∷ []) ++ 0 ∷ []) (lent 0 0 0 0) ∷ []) (72 ∷ 72 ∷ [])
    ∷ case 74 (refusal (plain 1 (ending 0x7F800000 ∷ [])) roomy ∷ refusal (plain 1 (ending 0xFF800000 ∷ [])) roomy ∷ refusal (plain 1 (ending 0x7FC00000 ∷ [])) roomy ∷ []) (74 ∷ 74 ∷ 74 ∷ [])
    ∷ case 74 (refusal (plain 2 (edge_bits ∷ ending 0x7F800001 ∷ [])) (lent 0 0 0 0) ∷ refusal (plain 1 (ending 0x7F7FFFFF ∷ [])) (lent 0 0 0 0) ∷ []) (74 ∷ 75 ∷ [])
    ∷ case 75 (refusal (plain 1 (edge_bits ∷ [])) (lent 6 9 9 3) ∷ refusal (plain 1 (edge_bits ∷ [])) (lent 5 9 9 3) ∷ []) (0 ∷ 75 ∷ [])
    ∷ case 75 (refusal (plain 1 (edge_bits ∷ [])) (lent 6 8 9 3) ∷ refusal (plain 1 (edge_bits ∷ [])) (lent 6 9 8 3) ∷ refusal (plain 1 (edge_bits ∷ [])) (lent 6 9 9 2) ∷ []) (75 ∷ 75 ∷ 75 ∷ [])
    ∷ case 75 (refusal (plain 0 []) (lent 6 0 0 0) ∷ refusal (plain 0 []) (lent 5 9 9 3) ∷ []) (0 ∷ 75 ∷ [])
    ∷ case 75 (refusal (plain 2 (edge_bits ∷ edge_bits ∷ [])) (lent 6 18 18 6) ∷ refusal (plain 2 (edge_bits ∷ edge_bits ∷ [])) (lent 6 18 18 5) ∷ []) (0 ∷ 75 ∷ [])
    ∷ []

-- The definitions yield each.
pub reads_hold : T (all agrees reads)
unfolding evaluation filled plain edge_bits ending lent roomy refusal reads
reads_hold = tt

-- what is left of the slices: other makers' bytes are passed over, coordinates come bit by bit, what stands behind is unchanged; a refusal leaves all
pub lefts : List Case
lefts =
    case 0 (left (read_of (solid 1 (edge_bits ∷ [])) (lent 7 10 10 4)))
    (0 ∷ 3 ∷ 3 ∷ 0 ∷ 0 ∷ 0 ∷ 3 ∷ 3 ∷ 0 ∷ 9 ∷ [] ++ edge_bits ++ bits32 (f32 7) ∷ replicate 9 0 ++ bits32 (f32 7) ∷ 0 ∷ 1 ∷ 2 ∷ 9 ∷ [])
    ∷ case 0 (left (read_of (solid 0 []) (lent 7 1 1 1))) (0 ∷ 0 ∷ 0 ∷ 0 ∷ 0 ∷ 0 ∷ 0 ∷ 0 ∷ 0 ∷ 9 ∷ 7 ∷ 7 ∷ 9 ∷ [])
    ∷ case 75 (left (read_of (plain 1 (edge_bits ∷ [])) (lent 6 1 1 1))) (75 ∷ 0 ∷ 0 ∷ 9 ∷ 9 ∷ 9 ∷ 9 ∷ 9 ∷ 9 ∷ 7 ∷ 7 ∷ 9 ∷ [])
    ∷ []

pub lefts_hold : T (all agrees lefts)
unfolding evaluation filled plain solid edge_bits lent left lefts
lefts_hold = tt

-- ---- meshes

-- four vertices, the last of them at −0.0, the least number above 0 and 1
points : List Float
points = map f32 (0 ∷ 0 ∷ 0 ∷ 0x3F800000 ∷ 0 ∷ 0 ∷ 0 ∷ 0x3F800000 ∷ 0 ∷ 0x80000000 ∷ 1 ∷ 0x3F800000 ∷ [])

-- the corners of triangles (0, 1, 2) and (3, 1, 0), as bits
first : List ℕ
first = 0 ∷ 0 ∷ 0 ∷ 0x3F800000 ∷ 0 ∷ 0 ∷ 0 ∷ 0x3F800000 ∷ 0 ∷ []

second : List ℕ
second = 0x80000000 ∷ 1 ∷ 0x3F800000 ∷ 0x3F800000 ∷ 0 ∷ 0 ∷ 0 ∷ 0 ∷ 0 ∷ []

-- what the writer answers for the points with other normals and indices, and a slice of so many bytes
wrote : List Float → List ℕ → ℕ → AfterWrite
wrote ns is room = write_of (in_two points ns) is (replicate room 9)

-- the answer and the slice, as numbers
shown : AfterWrite → List ℕ
shown w = w.refusal ∷ w.length ∷ w.bytes

-- more vertices than 13 allows, by the lengths, which are wrong too
many : Held
many = record { count = 262145; positions = []; normals = [] }

-- a file byte by byte, with what stands behind it; a byte too few; a file of no triangle; the checks in their order
pub writes : List Case
writes =
    case 0 (shown (wrote points (0 ∷ 1 ∷ 2 ∷ 3 ∷ 1 ∷ 0 ∷ []) 185)) (0 ∷ 184 ∷ [] ++ plain 2 (first ∷ second ∷ []) ++ 9 ∷ [])
    ∷ case 0 (shown (wrote points [] 84)) (0 ∷ 84 ∷ replicate 84 0)
    ∷ case 71 (shown (wrote points (0 ∷ 1 ∷ 2 ∷ []) 133)) (71 ∷ 0 ∷ replicate 133 9)
    ∷ case 14 ((wrote (take 11 points) (0 ∷ 1 ∷ 2 ∷ []) 0).refusal ∷ (write_of (in_two (take 11 points) (take 11 points)) (0 ∷ []) []).refusal ∷ []) (14 ∷ 14 ∷ [])
    ∷ case 21 ((wrote points (0 ∷ 1 ∷ 2 ∷ 9 ∷ []) 0).refusal ∷ (wrote points (0 ∷ 1 ∷ 4 ∷ []) 0).refusal ∷ []) (21 ∷ 22 ∷ [])
    ∷ case 23 ((wrote (replicate 12 nan) (0 ∷ 1 ∷ 2 ∷ []) 0).refusal ∷ (wrote (replicate 12 (f32 0x7F7FFFFF)) (0 ∷ 1 ∷ 2 ∷ []) 0).refusal ∷ []) (23 ∷ 71 ∷ [])
    ∷ case 24 ((write_of (in_two (replicate 12 (f32 0x550637BE)) points) (0 ∷ 1 ∷ 2 ∷ []) []).refusal ∷ (write_of many [] []).refusal ∷ []) (24 ∷ 13 ∷ [])
    ∷ case 71 ((write_of (in_two [] []) [] (replicate 83 9)).refusal ∷ (write_of (in_two [] []) [] (replicate 84 9)).refusal ∷ []) (71 ∷ 0 ∷ [])
    ∷ []

pub writes_hold : T (all agrees writes)
unfolding evaluation filled plain solid points first second wrote shown many writes
writes_hold = tt
