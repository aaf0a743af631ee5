-- Small bodies assembled, each of which tells a reading of document 01 from a near miss. Assumes nothing.
use Rattle.std.specs.Prelude.{cond, List, [], ◌∷◌, ◌++◌, ℕ, ◌*◌, take, replicate, T}
use Rattle.lists.specs.Lists.{all}
use Rattle.lists.specs.Table.{Case, case, agrees}
use Rattle.body_rows.specs.Given.{Given, at, below, row, triangle, given_table, given_positions, given_indices, K6}
use Rattle.patch_geometry.specs.declared.Aabb.{Aabb}
use Rattle.patch_geometry.specs.Geometry.{zero64}
use Rattle.patch_geometry.specs.Given.{box68, one_point}
use Rattle.mesh_acceptance.specs.Acceptance.{failure_width}
use Rattle.mesh_layout.specs.Mesh.{part_width, range_width}
use Rattle.mesh_room.specs.Slices.{MeshSlices}
use Rattle.mesh_definition.specs.Assemble.{AfterAssemble, assemble_of}
use Rattle.mesh_definition.specs.Evaluation.{evaluation}

-- mesh slices of so many numbers, and tables of so many rows
room : ℕ → ℕ → MeshSlices
room n rows =
    record {
      vertices = record { positions = replicate n zero64; normals = replicate n zero64 };
      indices = replicate n 9;
      parts = replicate (part_width * rows) 9;
      ranges = replicate (range_width * rows) 9;
      failures = replicate (failure_width * rows) 9;
      work = replicate 999 7;
    }

-- slices as long as the three rows below need, but tables with fewer than three rows
needed : MeshSlices
needed =
    record {
      vertices = record { positions = replicate 27 zero64; normals = replicate 27 zero64 };
      indices = replicate 9 9;
      parts = replicate part_width 9;
      ranges = replicate (range_width * 3) 9;
      failures = [];
      work = replicate 999 7;
    }

-- a body assembled, its normals being its positions once more
assembled : List Given → Aabb → List ℕ → ℕ → AfterAssemble
assembled gs box materials default =
    assemble_of (given_table gs) (given_positions gs) (given_positions gs) (given_indices gs) box materials default (room 99 9)

-- edges, open, over, closed
counts : List Given → List ℕ
counts gs =
    let a = assembled gs one_point [] 0 in
    a.counts.edges ∷ a.counts.opens ∷ a.counts.overs ∷ cond a.closed 1 0 ∷ []

-- the indices, parts and ranges that were written
runs : List Given → List ℕ → ℕ → List ℕ
runs gs materials default =
    let a = assembled gs one_point materials default in
    let out = a.slices in
    take a.indices out.indices ++ take (part_width * a.parts) out.parts ++ take (range_width * a.ranges) out.ranges

-- three rows with faces 4, 5 and 4
three : List Given
three =
    triangle 4 (at 0 0 0) (at 1 0 0) (at 0 1 0)
    ∷ triangle 5 (at 0 0 1) (at 1 0 1) (at 0 1 1)
    ∷ triangle 4 (at 0 0 2) (at 1 0 2) (at 0 1 2)
    ∷ []

-- K6, and a tetrahedron that shares an edge with it
neighbours : List Given
neighbours = K6 ++ row 1 (at 0 0 0 ∷ at 1 0 0 ∷ below 0 1 0 ∷ below 0 1 1 ∷ []) (0 ∷ 2 ∷ 1 ∷ 0 ∷ 1 ∷ 3 ∷ 0 ∷ 3 ∷ 2 ∷ 1 ∷ 2 ∷ 3 ∷ []) ∷ []

-- an upstream failure 7, a row without triangles, a patch that escapes by its unused vertex (20, 0, 0), and one that stays
failing : AfterAssemble
failing =
    let ps = given_positions (row 0 (at 20 0 0 ∷ at 0 0 0 ∷ at 1 0 0 ∷ at 0 1 0 ∷ at 0 0 0 ∷ at 1 0 0 ∷ at 0 1 0 ∷ []) [] ∷ []) in
    assemble_of
    (0 ∷ 3 ∷ 7 ∷ 0 ∷ 0 ∷ 31 ∷ 0 ∷ 2 ∷ 0 ∷ 0 ∷ 0 ∷ 32 ∷ 0 ∷ 1 ∷ 0 ∷ 4 ∷ 3 ∷ 33 ∷ 0 ∷ 6 ∷ 0 ∷ 3 ∷ 3 ∷ 34 ∷ [])
    ps
    ps
    (1 ∷ 2 ∷ 3 ∷ 0 ∷ 1 ∷ 2 ∷ [])
    box68
    []
    0
    (room 99 4)

-- the refusal of assembling the three rows with materials and room
refusal : List ℕ → MeshSlices → ℕ
refusal materials out = (assemble_of (given_table three) (given_positions three) (given_positions three) (given_indices three) one_point materials 0 out).refusal

-- The reach of (20, 0, 0) from (3, 4, 0) is the root of 305, and the span is 10.
pub claims : List Case
claims =
    case 1 (runs three (0 ∷ 0 ∷ 0 ∷ 0 ∷ 10 ∷ []) 4) (3 ∷ 4 ∷ 5 ∷ 0 ∷ 1 ∷ 2 ∷ 6 ∷ 7 ∷ 8 ∷ 3 ∷ 0 ∷ 3 ∷ 9 ∷ 3 ∷ 6 ∷ 4 ∷ 104 ∷ 3 ∷ 6 ∷ 5 ∷ 105 ∷ 0 ∷ 3 ∷ 4 ∷ 104 ∷ 6 ∷ 9 ∷ [])
    ∷ case 2 (runs three (9 ∷ []) 0) (0 ∷ 1 ∷ 2 ∷ 3 ∷ 4 ∷ 5 ∷ 6 ∷ 7 ∷ 8 ∷ 0 ∷ 0 ∷ 9 ∷ 4 ∷ 104 ∷ 0 ∷ 3 ∷ 5 ∷ 105 ∷ 3 ∷ 6 ∷ 4 ∷ 104 ∷ 6 ∷ 9 ∷ [])
    ∷ case 3 (counts K6) (6 ∷ 0 ∷ 0 ∷ 1 ∷ [])
    ∷ case 4 (counts neighbours) (11 ∷ 0 ∷ 1 ∷ 0 ∷ [])
    ∷ case 5 (counts three) (9 ∷ 9 ∷ 0 ∷ 0 ∷ [])
    ∷ case 6 failing.slices.failures (3 ∷ 31 ∷ 7 ∷ 0 ∷ 0 ∷ 2 ∷ 32 ∷ 0 ∷ 0 ∷ 0 ∷ 1 ∷ 33 ∷ 256 ∷ 0x403176D9090C79A8 ∷ 0x4024000000000000 ∷ 9 ∷ 9 ∷ 9 ∷ 9 ∷ 9 ∷ [])
    ∷ case 6 (failing.vertices ∷ failing.indices ∷ failing.ranges ∷ failing.failures ∷ take (range_width * 2) failing.slices.ranges) (3 ∷ 3 ∷ 1 ∷ 3 ∷ 6 ∷ 34 ∷ 0 ∷ 3 ∷ 9 ∷ 9 ∷ 9 ∷ 9 ∷ [])
    ∷ case 42 (refusal (4294967297 ∷ []) (room 0 0) ∷ refusal [] (room 99 2) ∷ refusal [] (room 26 3) ∷ refusal [] (room 27 3) ∷ refusal [] needed ∷ []) (42 ∷ 41 ∷ 41 ∷ 0 ∷ 41 ∷ [])
    ∷ []

-- The definitions yield each.
pub claims_hold : T (all agrees claims)
unfolding evaluation room needed assembled counts runs three neighbours failing refusal claims
claims_hold = tt
