-- The refusals: one table of calls and the numbers that they give, and one claim. A body that fails two checks gets the first in table order.
-- Assumes nothing.
use Rattle.std.specs.Prelude.{true, false, List, [], ◌∷◌, ◌++◌, map, ℕ, ◌+◌, ◌-◌, ◌*◌, take, drop, replicate, T, Float}
use Rattle.std.specs.Float.{nan, inf}
use Rattle.float_steps.specs.Floats.{f32}
use Rattle.lists.specs.Lists.{all}
use Rattle.lists.specs.Table.{Case, case, agrees}
use Rattle.point_rules.specs.Points.{key}
use Rattle.body_rows.specs.Body.{row_width, first_failing}
use Rattle.patch_geometry.specs.declared.Aabb.{Aabb}
use Rattle.patch_alone.specs.Alone.{volume_alone}
use Rattle.patch_geometry.specs.Geometry.{zero64, one64}
use Rattle.turn_definition.specs.Orient.{turn_of}
use Rattle.stitch_definition.specs.Slices.{StitchSlices, AfterStitch, stitch_checks}
use Rattle.stitch_definition.specs.Stitch.{stitch_of}
use Rattle.mesh_acceptance.specs.Acceptance.{failure_width}
use Rattle.mesh_layout.specs.Mesh.{part_width, range_width}
use Rattle.mesh_room.specs.Slices.{MeshSlices}
use Rattle.mesh_definition.specs.Assemble.{AfterAssemble, assemble_of}
use Rattle.patch_alone.specs.Evaluation as Lone
use Rattle.bench_definition.specs.Evaluation.{evaluation}

-- ---- how the calls are written

-- one triangle on one row of bin 6: 3 vertices and 3 indices need 16 × 3 + 16 × 1 + 4 × 3 = 76 words
one : List ℕ
one = 0 ∷ 5 ∷ 0 ∷ 3 ∷ 3 ∷ 6 ∷ []

-- the same row with that bin
in_bin : ℕ → List ℕ
in_bin bin = 0 ∷ 5 ∷ 0 ∷ 3 ∷ 3 ∷ bin ∷ []

-- its positions, and its normals
nine : List Float
nine = zero64 ∷ zero64 ∷ zero64 ∷ one64 ∷ zero64 ∷ zero64 ∷ zero64 ∷ one64 ∷ zero64 ∷ []

-- the same with a NaN
with_nan : List Float
with_nan = nan ∷ drop 1 nine

-- nine numbers, the first of them of these bits
leading : ℕ → List Float
leading b = f32 b ∷ drop 1 nine

-- nine numbers, the first of them the first whose cell is clamped
with_far : List Float
with_far = leading 0x550637BE

-- its indices
corners : List ℕ
corners = 0 ∷ 1 ∷ 2 ∷ []

-- the refusal of turn, lent a work area of so many words
turn_with : List ℕ → List Float → List Float → List ℕ → ℕ → ℕ
turn_with table ps ns is words = (turn_of key table ps ns is (replicate words 7)).refusal

-- a work area of words 7, as turn leaves it
leaves : ℕ → List ℕ
leaves words = (turn_of key one nine nine corners (replicate words 7)).work

-- slices of those lengths for stitch
out : ℕ → ℕ → ℕ → ℕ → ℕ → StitchSlices
out t p n i words =
    record { table = replicate t 9; positions = replicate p zero64; normals = replicate n zero64; indices = replicate i 9; work = replicate words 7 }

-- stitch of the one triangle
stitch_with : Float → StitchSlices → AfterStitch
stitch_with sag s = stitch_of key one nine nine corners sag s

-- the refusal of stitch for a body whose positions and normals are ns
stitch_refuses : List ℕ → List Float → List ℕ → StitchSlices → ℕ
stitch_refuses table ns is s = (stitch_of key table ns ns is zero64 s).refusal

-- slices of those lengths for assemble, and a work area of so many words
mesh : ℕ → ℕ → ℕ → ℕ → ℕ → ℕ → MeshSlices
mesh p i parts ranges failures words =
    record {
      vertices = record { positions = replicate p zero64; normals = replicate p zero64 };
      indices = replicate i 9;
      parts = replicate parts 9;
      ranges = replicate ranges 9;
      failures = replicate failures 9;
      work = replicate words 7;
    }

-- the same with tables of one row
mesh_of_one : ℕ → ℕ → ℕ → MeshSlices
mesh_of_one p i words = mesh p i part_width range_width failure_width words

-- a box with a NaN
no_box : Aabb
no_box = record { min = record { x = nan; y = nan; z = nan }; max = record { x = zero64; y = zero64; z = zero64 } }

-- assemble of the one triangle
assemble_with : List ℕ → ℕ → MeshSlices → AfterAssemble
assemble_with materials default m = assemble_of one nine nine corners no_box materials default m

-- the refusal of assemble for a body whose positions and normals are ns
assemble_refuses : List ℕ → List Float → List ℕ → List ℕ → MeshSlices → ℕ
assemble_refuses table ns is materials m = (assemble_of table ns ns is no_box materials 0 m).refusal

-- the stitch checks of one row with so many vertices and indices
stitched_size : ℕ → ℕ → StitchSlices → ℕ
stitched_size v i s = first_failing (stitch_checks (record { shell = 0; face = 0; outcome = 0; vertices = v; indices = i; bin = 0 } ∷ []) s)

-- ---- each check alone

-- what each check refuses, and what it lets pass
pub refusals : List Case
refusals =
    case 11 (turn_with (0 ∷ 0 ∷ []) [] [] [] 0 ∷ turn_with (replicate (row_width * 4096) 0) [] [] [] 65536 ∷ turn_with (replicate (row_width * 4097) 0) [] [] [] 70000 ∷ turn_with [] [] [] [] 0 ∷ [])
    (11 ∷ 0 ∷ 11 ∷ 0 ∷ [])
    ∷ case 12 (turn_with (0 ∷ 0 ∷ 256 ∷ 0 ∷ 0 ∷ 0 ∷ []) [] [] [] 99 ∷ turn_with (0 ∷ 0 ∷ 255 ∷ 0 ∷ 0 ∷ 0 ∷ []) [] [] [] 99 ∷ turn_with (0 ∷ 0 ∷ 1 ∷ 1 ∷ 0 ∷ 0 ∷ []) nine nine [] 99
    ∷ turn_with (0 ∷ 0 ∷ 1 ∷ 0 ∷ 3 ∷ 0 ∷ []) [] [] corners 99 ∷ []) (12 ∷ 0 ∷ 12 ∷ 12 ∷ [])
    ∷ case 13 (turn_with (0 ∷ 0 ∷ 0 ∷ 262145 ∷ 0 ∷ 0 ∷ []) [] [] [] 99 ∷ turn_with (0 ∷ 0 ∷ 0 ∷ 262144 ∷ 786433 ∷ 0 ∷ []) [] [] [] 99 ∷ turn_with (0 ∷ 0 ∷ 0 ∷ 262144 ∷ 786432 ∷ 0 ∷ []) [] [] [] 99
    ∷ turn_with (0 ∷ 0 ∷ 0 ∷ 262144 ∷ 0 ∷ 0 ∷ 0 ∷ 0 ∷ 0 ∷ 1 ∷ 0 ∷ 0 ∷ []) [] [] [] 99 ∷ turn_with (0 ∷ 0 ∷ 0 ∷ 0 ∷ 4294967295 ∷ 0 ∷ 0 ∷ 0 ∷ 0 ∷ 0 ∷ 1 ∷ 0 ∷ []) [] [] [] 99 ∷ [])
    (13 ∷ 13 ∷ 14 ∷ 13 ∷ 13 ∷ [])
    ∷ case 14 (turn_with one (zero64 ∷ nine) nine corners 80 ∷ turn_with one nine (drop 1 nine) corners 80 ∷ turn_with one nine nine (0 ∷ corners) 80 ∷ turn_with one (drop 1 nine) nine corners 80 ∷ [])
    (14 ∷ 14 ∷ 14 ∷ 14 ∷ [])
    ∷ case 15 (turn_with (in_bin 65535) nine nine corners 76 ∷ turn_with (in_bin 65536) nine nine corners 76 ∷ turn_with (0 ∷ 0 ∷ 9 ∷ 0 ∷ 0 ∷ 65536 ∷ []) [] [] [] 16
    ∷ turn_with (one ++ (0 ∷ 0 ∷ 0 ∷ 0 ∷ 0 ∷ 4294967295 ∷ [])) nine nine corners 99 ∷ stitch_refuses (in_bin 65536) nine corners (out row_width 9 9 3 76)
    ∷ assemble_refuses (in_bin 65536) nine corners [] (mesh_of_one 9 3 76) ∷ []) (0 ∷ 15 ∷ 15 ∷ 15 ∷ 15 ∷ 15 ∷ [])
    ∷ case 21 (turn_with (0 ∷ 5 ∷ 0 ∷ 3 ∷ 4 ∷ 0 ∷ []) nine nine (0 ∷ 1 ∷ 2 ∷ 0 ∷ []) 99 ∷ turn_with (0 ∷ 5 ∷ 0 ∷ 3 ∷ 2 ∷ 0 ∷ 0 ∷ 6 ∷ 0 ∷ 0 ∷ 1 ∷ 0 ∷ []) nine nine (0 ∷ 1 ∷ 0 ∷ []) 99 ∷ [])
    (21 ∷ 21 ∷ [])
    ∷ case 22 (turn_with one nine nine (0 ∷ 1 ∷ 3 ∷ []) 99 ∷ turn_with one nine nine (0 ∷ 1 ∷ 2 ∷ []) 99
    ∷ turn_with (0 ∷ 5 ∷ 0 ∷ 3 ∷ 3 ∷ 0 ∷ 0 ∷ 6 ∷ 0 ∷ 0 ∷ 3 ∷ 0 ∷ []) nine nine (0 ∷ 1 ∷ 2 ∷ 0 ∷ 0 ∷ 0 ∷ []) 99 ∷ []) (22 ∷ 0 ∷ 22 ∷ [])
    ∷ case 23 (turn_with one nine with_nan corners 99 ∷ turn_with one (inf true ∷ drop 1 nine) nine corners 99 ∷ turn_with (0 ∷ 0 ∷ 0 ∷ 3 ∷ 0 ∷ 0 ∷ []) with_nan nine [] 99 ∷ []) (23 ∷ 23 ∷ 23 ∷ [])
    ∷ case 24 (map (λ b. turn_with one (leading b) nine corners 99) (0x550637BD ∷ 0xD50637BD ∷ 0x550637BE ∷ 0xD50637BE ∷ 0x7F7FFFFF ∷ [])) (0 ∷ 0 ∷ 24 ∷ 24 ∷ 24 ∷ [])
    ∷ case 24 (turn_with one nine with_far corners 99 ∷ turn_with (0 ∷ 0 ∷ 0 ∷ 3 ∷ 0 ∷ 0 ∷ []) with_far nine [] 99 ∷ stitch_refuses one with_far corners (out row_width 9 9 3 76)
    ∷ assemble_refuses one with_far corners [] (mesh_of_one 9 3 76) ∷ (volume_alone with_far nine corners false).refusal ∷ []) (0 ∷ 24 ∷ 24 ∷ 24 ∷ 24 ∷ [])
    ∷ case 31 (turn_with one nine nine corners 75 ∷ turn_with one nine nine corners 76 ∷ turn_with [] [] [] [] 0 ∷ turn_with (0 ∷ 0 ∷ 9 ∷ 0 ∷ 0 ∷ 0 ∷ []) [] [] [] 15
    ∷ turn_with (0 ∷ 0 ∷ 9 ∷ 0 ∷ 0 ∷ 0 ∷ []) [] [] [] 16 ∷ []) (31 ∷ 0 ∷ 0 ∷ 31 ∷ 0 ∷ [])
    ∷ case 31 (take 1 (leaves 75) ++ take 1 (leaves 77) ++ drop 75 (leaves 77)) (7 ∷ 0 ∷ 0 ∷ 7 ∷ [])
    ∷ case 33 (stitched_size 262145 0 (out 0 0 0 0 0) ∷ stitched_size 0 786435 (out 0 0 0 0 0) ∷ stitched_size 262144 786432 (out 0 0 0 0 0) ∷ []) (33 ∷ 33 ∷ 32 ∷ [])
    ∷ case 32 ((stitch_with zero64 (out (row_width - 1) 9 9 3 76)).refusal ∷ (stitch_with zero64 (out row_width 8 9 3 76)).refusal ∷ (stitch_with zero64 (out row_width 9 8 3 76)).refusal
    ∷ (stitch_with zero64 (out row_width 9 9 2 76)).refusal ∷ (stitch_with nan (out row_width 9 9 3 76)).refusal ∷ (stitch_with one64 (out row_width 9 9 3 76)).refusal
    ∷ (stitch_with one64 (out row_width 12 12 6 76)).refusal ∷ []) (32 ∷ 32 ∷ 32 ∷ 32 ∷ 0 ∷ 32 ∷ 0 ∷ [])
    ∷ case 32 (take 1 (stitch_with zero64 (out row_width 9 9 2 77)).slices.work ++ drop 75 (stitch_with zero64 (out row_width 9 9 2 77)).slices.work
    ++ (stitch_with zero64 (out row_width 9 9 2 77)).slices.table) (0 ∷ 0 ∷ 7 ∷ replicate row_width 9)
    ∷ case 32 ((stitch_with zero64 (out (row_width + 2) 9 9 4 76)).slices.table ++ (stitch_with zero64 (out (row_width + 2) 9 9 4 76)).slices.indices)
    (0 ∷ 5 ∷ 0 ∷ 3 ∷ 3 ∷ 6 ∷ 9 ∷ 9 ∷ 0 ∷ 1 ∷ 2 ∷ 9 ∷ [])
    ∷ case 42 ((assemble_with (0 ∷ 4294967297 ∷ []) 0 (mesh_of_one 9 3 76)).refusal ∷ (assemble_with [] 4294967297 (mesh_of_one 9 3 76)).refusal
    ∷ (assemble_with (4294967296 ∷ []) 4294967296 (mesh_of_one 9 3 76)).refusal ∷ []) (42 ∷ 42 ∷ 0 ∷ [])
    ∷ case 41 ((assemble_with [] 0 (mesh_of_one 8 3 76)).refusal ∷ (assemble_with [] 0 (mesh_of_one 9 2 76)).refusal ∷ (assemble_with [] 0 (mesh 9 3 (part_width - 1) range_width failure_width 76)).refusal
    ∷ (assemble_with [] 0 (mesh 9 3 part_width (range_width - 1) failure_width 76)).refusal ∷ (assemble_with [] 0 (mesh 9 3 part_width range_width (failure_width - 1) 76)).refusal
    ∷ (assemble_with [] 0 (mesh_of_one 9 3 76)).refusal ∷ []) (41 ∷ 41 ∷ 41 ∷ 41 ∷ 41 ∷ 0 ∷ [])
    ∷ case 41 (take 1 (assemble_with [] 0 (mesh_of_one 8 3 77)).slices.work ++ drop 75 (assemble_with [] 0 (mesh_of_one 8 3 77)).slices.work ++ (assemble_with [] 0 (mesh_of_one 8 3 77)).slices.ranges)
    (0 ∷ 0 ∷ 7 ∷ replicate range_width 9)
    ∷ case 14 (map (λ ps. (volume_alone ps nine corners false).refusal) (nine ∷ drop 1 nine ∷ []) ++ (volume_alone nine nine (0 ∷ 1 ∷ []) false).refusal
    ∷ (volume_alone nine nine (0 ∷ 1 ∷ 3 ∷ []) false).refusal ∷ (volume_alone nine with_nan corners false).refusal ∷ []) (0 ∷ 14 ∷ 21 ∷ 22 ∷ 23 ∷ [])
    ∷ []

-- The definitions give each of these numbers.
pub refusals_agree : T (all agrees refusals)
unfolding evaluation Lone.evaluation one in_bin nine with_nan leading with_far corners turn_with leaves out stitch_with stitch_refuses mesh mesh_of_one no_box assemble_with assemble_refuses stitched_size refusals
refusals_agree = tt

-- ---- two checks at once

-- case 1112 fails 11 and 12, and so on: the first in table order is given
pub pairs : List Case
pairs =
    case 1112 (turn_with (0 ∷ 0 ∷ 256 ∷ 0 ∷ 0 ∷ 0 ∷ 0 ∷ []) [] [] [] 99 ∷ []) (11 ∷ [])
    ∷ case 1113 (turn_with (0 ∷ replicate (row_width * 4097) 300000) [] [] [] 0 ∷ []) (11 ∷ [])
    ∷ case 1114 (turn_with (0 ∷ 0 ∷ 0 ∷ 0 ∷ 3 ∷ 0 ∷ 3 ∷ []) [] [] [] 99 ∷ []) (11 ∷ [])
    ∷ case 1115 (turn_with (in_bin 65536 ++ (0 ∷ [])) nine nine corners 99 ∷ []) (11 ∷ [])
    ∷ case 1131 (turn_with (replicate (row_width * 4097) 0) [] [] [] 0 ∷ []) (11 ∷ [])
    ∷ case 1213 (turn_with (0 ∷ 0 ∷ 256 ∷ 262145 ∷ 0 ∷ 0 ∷ []) [] [] [] 99 ∷ []) (12 ∷ [])
    ∷ case 1214 (turn_with (0 ∷ 0 ∷ 1 ∷ 1 ∷ 0 ∷ 0 ∷ []) [] [] [] 99 ∷ []) (12 ∷ [])
    ∷ case 1215 (turn_with (0 ∷ 0 ∷ 256 ∷ 0 ∷ 0 ∷ 65536 ∷ []) [] [] [] 99 ∷ []) (12 ∷ [])
    ∷ case 1221 (turn_with (0 ∷ 0 ∷ 1 ∷ 0 ∷ 1 ∷ 0 ∷ []) [] [] (0 ∷ []) 99 ∷ []) (12 ∷ [])
    ∷ case 1222 (turn_with (0 ∷ 0 ∷ 1 ∷ 0 ∷ 3 ∷ 0 ∷ []) [] [] (0 ∷ 0 ∷ 0 ∷ []) 99 ∷ []) (12 ∷ [])
    ∷ case 1231 (turn_with (0 ∷ 0 ∷ 256 ∷ 0 ∷ 0 ∷ 0 ∷ []) [] [] [] 0 ∷ []) (12 ∷ [])
    ∷ case 1314 (turn_with (0 ∷ 0 ∷ 0 ∷ 262145 ∷ 0 ∷ 0 ∷ []) [] [] [] 99 ∷ []) (13 ∷ [])
    ∷ case 1315 (turn_with (0 ∷ 0 ∷ 0 ∷ 262145 ∷ 0 ∷ 65536 ∷ []) [] [] [] 99 ∷ []) (13 ∷ [])
    ∷ case 1321 (turn_with (0 ∷ 0 ∷ 0 ∷ 262145 ∷ 1 ∷ 0 ∷ []) [] [] (0 ∷ []) 99 ∷ []) (13 ∷ [])
    ∷ case 1331 (turn_with (0 ∷ 0 ∷ 0 ∷ 262145 ∷ 0 ∷ 0 ∷ []) [] [] [] 0 ∷ []) (13 ∷ [])
    ∷ case 1415 (turn_with (in_bin 65536) nine nine (0 ∷ corners) 99 ∷ []) (14 ∷ [])
    ∷ case 1421 (turn_with (0 ∷ 5 ∷ 0 ∷ 3 ∷ 4 ∷ 0 ∷ []) nine nine corners 99 ∷ []) (14 ∷ [])
    ∷ case 1422 (turn_with one nine (drop 1 nine) (0 ∷ 1 ∷ 3 ∷ []) 99 ∷ []) (14 ∷ [])
    ∷ case 1423 (turn_with one with_nan (drop 1 nine) corners 99 ∷ []) (14 ∷ [])
    ∷ case 1431 (turn_with one nine nine (0 ∷ corners) 0 ∷ []) (14 ∷ [])
    ∷ case 1521 (turn_with (0 ∷ 5 ∷ 0 ∷ 3 ∷ 4 ∷ 65536 ∷ []) nine nine (0 ∷ 1 ∷ 2 ∷ 0 ∷ []) 99 ∷ []) (15 ∷ [])
    ∷ case 1521 (turn_with (0 ∷ 5 ∷ 0 ∷ 3 ∷ 4 ∷ 0 ∷ 0 ∷ 0 ∷ 9 ∷ 0 ∷ 0 ∷ 65536 ∷ []) nine nine (0 ∷ 1 ∷ 2 ∷ 0 ∷ []) 99 ∷ []) (15 ∷ [])
    ∷ case 1522 (turn_with (in_bin 65536) nine nine (0 ∷ 1 ∷ 3 ∷ []) 99 ∷ []) (15 ∷ [])
    ∷ case 1523 (turn_with (in_bin 65536) nine with_nan corners 99 ∷ []) (15 ∷ [])
    ∷ case 1531 (turn_with (in_bin 65536) nine nine corners 0 ∷ []) (15 ∷ [])
    ∷ case 2122 (turn_with (0 ∷ 5 ∷ 0 ∷ 3 ∷ 4 ∷ 0 ∷ []) nine nine (0 ∷ 1 ∷ 9 ∷ 0 ∷ []) 99 ∷ []) (21 ∷ [])
    ∷ case 2123 (turn_with (0 ∷ 5 ∷ 0 ∷ 3 ∷ 4 ∷ 0 ∷ []) nine with_nan (0 ∷ 1 ∷ 2 ∷ 0 ∷ []) 99 ∷ []) (21 ∷ [])
    ∷ case 2122 (turn_with (0 ∷ 5 ∷ 0 ∷ 3 ∷ 3 ∷ 0 ∷ 0 ∷ 6 ∷ 0 ∷ 0 ∷ 1 ∷ 0 ∷ []) nine nine (0 ∷ 1 ∷ 9 ∷ 0 ∷ []) 99 ∷ []) (21 ∷ [])
    ∷ case 2131 (turn_with (0 ∷ 5 ∷ 0 ∷ 3 ∷ 4 ∷ 0 ∷ []) nine nine (0 ∷ 1 ∷ 2 ∷ 0 ∷ []) 0 ∷ []) (21 ∷ [])
    ∷ case 2223 (turn_with one nine with_nan (0 ∷ 1 ∷ 3 ∷ []) 99 ∷ []) (22 ∷ [])
    ∷ case 2223 (turn_with (0 ∷ 5 ∷ 0 ∷ 3 ∷ 3 ∷ 0 ∷ 0 ∷ 6 ∷ 0 ∷ 0 ∷ 3 ∷ 0 ∷ []) with_nan nine (0 ∷ 1 ∷ 2 ∷ 0 ∷ 0 ∷ 0 ∷ []) 99 ∷ []) (22 ∷ [])
    ∷ case 2231 (turn_with one nine nine (0 ∷ 1 ∷ 3 ∷ []) 0 ∷ []) (22 ∷ [])
    ∷ case 1424 (turn_with one with_far (drop 1 nine) corners 99 ∷ []) (14 ∷ [])
    ∷ case 1524 (turn_with (in_bin 65536) with_far nine corners 99 ∷ []) (15 ∷ [])
    ∷ case 2124 (turn_with (0 ∷ 5 ∷ 0 ∷ 3 ∷ 4 ∷ 0 ∷ []) with_far nine (0 ∷ 1 ∷ 2 ∷ 0 ∷ []) 99 ∷ []) (21 ∷ [])
    ∷ case 2224 (turn_with one with_far nine (0 ∷ 1 ∷ 3 ∷ []) 99 ∷ []) (22 ∷ [])
    ∷ case 2324 (turn_with one with_far with_nan corners 99 ∷ turn_with one (leading 0x7F800000) nine corners 99 ∷ []) (23 ∷ 23 ∷ [])
    ∷ case 2431 (turn_with one with_far nine corners 0 ∷ []) (24 ∷ [])
    ∷ case 2331 (turn_with one nine with_nan corners 0 ∷ []) (23 ∷ [])
    ∷ case 1132 (stitch_refuses (0 ∷ []) [] [] (out 0 0 0 0 99) ∷ []) (11 ∷ [])
    ∷ case 1432 (stitch_refuses one (drop 1 nine) corners (out 0 0 0 0 99) ∷ []) (14 ∷ [])
    ∷ case 1532 (stitch_refuses (in_bin 65536) nine corners (out 0 0 0 0 99) ∷ []) (15 ∷ [])
    ∷ case 2332 (stitch_refuses one with_nan corners (out 0 0 0 0 99) ∷ []) (23 ∷ [])
    ∷ case 2432 (stitch_refuses one with_far corners (out 0 0 0 0 99) ∷ []) (24 ∷ [])
    ∷ case 3132 (stitch_refuses one nine corners (out 0 0 0 0 75) ∷ []) (31 ∷ [])
    ∷ case 3332 (stitched_size 262145 0 (out 0 0 0 0 0) ∷ []) (33 ∷ [])
    ∷ case 1242 (assemble_refuses (0 ∷ 0 ∷ 256 ∷ 0 ∷ 0 ∷ 0 ∷ []) [] [] (4294967297 ∷ []) (mesh 0 0 0 0 0 99) ∷ []) (12 ∷ [])
    ∷ case 1542 (assemble_refuses (in_bin 65536) nine corners (4294967297 ∷ []) (mesh_of_one 9 3 99) ∷ []) (15 ∷ [])
    ∷ case 2241 (assemble_refuses one nine (0 ∷ 1 ∷ 3 ∷ []) [] (mesh 0 0 0 0 0 99) ∷ []) (22 ∷ [])
    ∷ case 3142 (assemble_refuses one nine corners (4294967297 ∷ []) (mesh_of_one 9 3 75) ∷ []) (31 ∷ [])
    ∷ case 3141 (assemble_refuses one nine corners [] (mesh 0 0 0 0 0 75) ∷ []) (31 ∷ [])
    ∷ case 4241 (assemble_refuses one nine corners (4294967297 ∷ []) (mesh 0 0 0 0 0 76) ∷ []) (42 ∷ [])
    ∷ case 2442 (assemble_refuses one with_far corners (4294967297 ∷ []) (mesh_of_one 9 3 99) ∷ []) (24 ∷ [])
    ∷ case 2441 (assemble_refuses one with_far corners [] (mesh 0 0 0 0 0 99) ∷ []) (24 ∷ [])
    ∷ case 2342 (assemble_refuses one with_nan corners (4294967297 ∷ []) (mesh_of_one 9 3 99) ∷ []) (23 ∷ [])
    ∷ []

-- The first in table order is given.
pub pairs_agree : T (all agrees pairs)
unfolding evaluation Lone.evaluation one in_bin nine with_nan leading with_far corners turn_with leaves out stitch_with stitch_refuses mesh mesh_of_one no_box assemble_with assemble_refuses stitched_size pairs
pairs_agree = tt
