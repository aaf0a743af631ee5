-- The three calls in a row, as a program makes them once its sheet is read: turn, stitch, assemble. Assumes nothing.
use Rattle.std.specs.Prelude.{true, false, List, map, ℕ, ◌+◌, ◌*◌, length, take, replicate, eqb, Float}
use Rattle.float_steps.specs.Floats.{f32}
use Rattle.point_rules.specs.Points.{key}
use Rattle.body_rows.specs.Body.{row_width}
use Rattle.sheet_line_order.specs.declared.Limits.{Limits}
use Rattle.patch_geometry.specs.declared.Aabb.{Aabb}
use Rattle.patch_geometry.specs.Geometry.{zero64}
use Rattle.turn_definition.specs.Orient.{AfterTurn, turn_of}
use Rattle.stitch_definition.specs.Slices.{StitchSlices, AfterStitch}
use Rattle.stitch_definition.specs.Stitch.{stitch_of}
use Rattle.mesh_acceptance.specs.Acceptance.{failure_width}
use Rattle.mesh_layout.specs.Mesh.{part_width, range_width}
use Rattle.mesh_room.specs.Slices.{MeshSlices}
use Rattle.mesh_definition.specs.Assemble.{AfterAssemble, assemble_of}

-- a sheet that was read: box, sag, default and materials (0 is none, n + 1 is material n), and the body, whose floats are f32 bits
pub record Sheet : Type 0 where
  pub box : Aabb
  pub sag : Float
  pub default : ℕ
  pub materials : List ℕ
  pub table : List ℕ
  pub positions : List ℕ
  pub normals : List ℕ
  pub indices : List ℕ

-- a work area for every body within the limits, and every result
unfoldable pub area : Limits → List ℕ
area l = replicate (16 * l.result_indices + 16 * l.rows + 4 * l.result_vertices) 0

-- the slices that stitch is lent, and the work area as it stands
unfoldable pub stitch_slices : Limits → List ℕ → StitchSlices
stitch_slices l work =
    record {
      table = replicate (row_width * l.rows) 0;
      positions = replicate (3 * l.result_vertices) zero64;
      normals = replicate (3 * l.result_vertices) zero64;
      indices = replicate l.result_indices 0;
      work = work;
    }

-- the slices that assemble is lent, and the work area as it stands
unfoldable pub mesh_slices : Limits → List ℕ → MeshSlices
mesh_slices l work =
    record {
      vertices = record { positions = replicate (3 * l.result_vertices) zero64; normals = replicate (3 * l.result_vertices) zero64 };
      indices = replicate l.result_indices 0;
      parts = replicate (part_width * l.rows) 0;
      ranges = replicate (range_width * l.rows) 0;
      failures = replicate (failure_width * l.rows) 0;
      work = work;
    }

-- what the three calls give: the number of the first refusal, or their answers
pub data Outcome : Type 0 where
  Refused : ℕ → Outcome
  Finished : AfterTurn → AfterStitch → AfterAssemble → Outcome

-- the last call, on the stitched body
unfoldable pub assemble_next : Limits → Sheet → AfterTurn → AfterStitch → Outcome
assemble_next limits x t s =
    let out = s.slices in
    let a =
    assemble_of
    (take (length x.table) out.table)
    (take (3 * s.vertices) out.positions)
    (take (3 * s.vertices) out.normals)
    (take s.indices out.indices)
    x.box
    x.materials
    x.default
    (mesh_slices limits out.work) in
    elim (eqb a.refusal 0) [ true ↦ Finished t s a | false ↦ Refused a.refusal ]

-- the second call, on the turned body, and then the last
unfoldable pub stitch_next : Limits → Sheet → AfterTurn → Outcome
stitch_next limits x t =
    let s = stitch_of key x.table (map f32 x.positions) t.normals t.indices x.sag (stitch_slices limits t.work) in
    elim (eqb s.refusal 0) [ true ↦ assemble_next limits x t s | false ↦ Refused s.refusal ]

-- The program turns, stitches and assembles.
unfoldable pub finish : Limits → Sheet → Outcome
finish limits x =
    let t = turn_of key x.table (map f32 x.positions) (map f32 x.normals) x.indices (area limits) in
    elim (eqb t.refusal 0) [ true ↦ stitch_next limits x t | false ↦ Refused t.refusal ]
