-- The call: the mesh of the accepted patches with its counts, and what is written or refused. Assumes nothing.
use Rattle.std.specs.Prelude.{Bool, true, false, ℕ, length, eqb, Float}
use mathlib.Core.List.{List, [], flat_map}
use Rattle.lists.specs.Lists.{written}
use Rattle.point_rules.specs.Points.{bits}
use Rattle.body_rows.specs.Body.{Row, rows_of, patches_of, first_failing, cleared}
use Rattle.body_refusals.specs.BodyChecks.{body_checks}
use Rattle.patch_geometry.specs.declared.Aabb.{Aabb}
use Rattle.mesh_counts.specs.Counts.{Counts, counts_of, closed_mesh}
use Rattle.mesh_acceptance.specs.Acceptance.{Acceptance, acceptance, accepted_vertices, accepted_indices, failure_numbers}
use Rattle.mesh_layout.specs.Mesh.{Vertices, vertices_of, written_vertices, laid_from, materials_of, runs_of, part_of, ranges_from}
use Rattle.mesh_room.specs.Slices.{MeshSlices, mesh_checks}

-- a body's mesh, flat as it is written, with its counts
pub record Mesh : Type 0 where
  pub vertices : Vertices
  pub indices : List ℕ
  pub parts : List ℕ
  pub ranges : List ℕ
  pub failures : List ℕ
  pub counts : Counts
  pub closed : Bool

-- the mesh of the accepted patches; over it, points are the same exactly if their bits agree, and for closed the two zeros are one
unfoldable pub mesh_of : Acceptance → Mesh
mesh_of v =
    let ls = laid_from 0 v.accepted in
    let vertices = vertices_of v.accepted in
    record {
      vertices = vertices;
      indices = runs_of ls;
      parts = flat_map (part_of ls) (materials_of ls);
      ranges = ranges_from ls [] ls;
      failures = flat_map failure_numbers v.failed;
      counts = counts_of bits vertices.positions (runs_of ls);
      closed = closed_mesh vertices.positions (runs_of ls);
    }

-- what assemble answers (the refusal's number or 0; how many vertices, indices, parts, ranges and failures were written; the counts and closed)
-- and what it leaves in the lent slices
pub record AfterAssemble : Type 0 where
  pub refusal : ℕ
  pub vertices : ℕ
  pub indices : ℕ
  pub parts : ℕ
  pub ranges : ℕ
  pub failures : ℕ
  pub counts : Counts
  pub closed : Bool
  pub slices : MeshSlices

-- A refusal is its number only; the slices are unchanged.
unfoldable pub refuse_mesh : ℕ → MeshSlices → AfterAssemble
refuse_mesh n out =
    record {
      refusal = n;
      vertices = 0;
      indices = 0;
      parts = 0;
      ranges = 0;
      failures = 0;
      counts = record { edges = 0; opens = 0; overs = 0 };
      closed = false;
      slices = out;
    }

-- the mesh written to the slices, output beyond the written part unchanged
unfoldable pub write_mesh : Acceptance → MeshSlices → AfterAssemble
write_mesh v out =
    let m = mesh_of v in
    record {
      refusal = 0;
      vertices = accepted_vertices v.accepted;
      indices = accepted_indices v.accepted;
      parts = length (materials_of (laid_from 0 v.accepted));
      ranges = length v.accepted;
      failures = length v.failed;
      counts = m.counts;
      closed = m.closed;
      slices = record {
        vertices = written_vertices m.vertices out.vertices;
        indices = written m.indices out.indices;
        parts = written m.parts out.parts;
        ranges = written m.ranges out.ranges;
        failures = written m.failures out.failures;
        work = out.work;
      };
    }

-- the slices with the words of 31 cleared
unfoldable pub cleared_mesh : List Row → MeshSlices → MeshSlices
cleared_mesh rows out =
    record {
      vertices = out.vertices;
      indices = out.indices;
      parts = out.parts;
      ranges = out.ranges;
      failures = out.failures;
      work = cleared rows out.work;
    }

-- the call for a body that passed the checks up to 31
unfoldable pub assemble_or_refuse : List Row → List ℕ → ℕ → Acceptance → MeshSlices → AfterAssemble
assemble_or_refuse rows materials default v out =
    let n = first_failing (mesh_checks (length rows) materials default v.accepted out) in
    elim (eqb n 0) [ true ↦ write_mesh v out | false ↦ refuse_mesh n out ]

-- assemble: table, positions, normals and indices as they are lent, the box, the materials, the default, and the slices to write
unfoldable pub assemble_of : List ℕ → List Float → List Float → List ℕ → Aabb → List ℕ → ℕ → MeshSlices → AfterAssemble
assemble_of table ps ns is box materials default out =
    let n = first_failing (body_checks table ps ns is (length out.work)) in
    elim (eqb n 0) [
      | true ↦
          let rows = rows_of table in
          assemble_or_refuse rows materials default (acceptance box materials default (patches_of rows ps ns is)) (cleared_mesh rows out)
      | false ↦ refuse_mesh n out
    ]
