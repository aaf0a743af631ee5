-- Assemble's answer as an enum, and what the call leaves. Assumes nothing.
use Rattle.std.specs.Prelude.{true, false, List, ℕ, eqb, Float, Result, Ok, Err}
use Rattle.body_rows.specs.Body.{rows_of, patches_of}
use Rattle.patch_geometry.specs.declared.Aabb.{Aabb}
use Rattle.mesh_acceptance.specs.Acceptance.{acceptance}
use Rattle.mesh_definition.specs.declared.MeshCounts.{MeshCounts}
use Rattle.mesh_room.specs.Slices.{MeshSlices}
use Rattle.mesh_definition.specs.Assemble.{AfterAssemble, cleared_mesh, assemble_or_refuse}

-- assemble's answer, and what the lent slices hold
pub record LeftMesh : Type 0 where
  pub answer : Result MeshCounts ℕ
  pub slices : MeshSlices

-- the slices
abbrev pub slices_of : List Float → List Float → List ℕ → List ℕ → List ℕ → List ℕ → List ℕ → MeshSlices
slices_of ps ns is parts ranges failures work = record { vertices = record { positions = ps; normals = ns }; indices = is; parts = parts; ranges = ranges; failures = failures; work = work }

-- the answer with the slices
abbrev pub left_mesh : Result MeshCounts ℕ → MeshSlices → LeftMesh
left_mesh a s = record { answer = a; slices = s }

-- the counts of an answer that isn't a refusal
abbrev pub counts_answered : AfterAssemble → MeshCounts
counts_answered t =
    record {
      vertices = t.vertices;
      indices = t.indices;
      parts = t.parts;
      ranges = t.ranges;
      failures = t.failures;
      edges = t.counts.edges;
      opens = t.counts.opens;
      overs = t.counts.overs;
      closed = t.closed;
    }

-- 01's number and values for each answer
abbrev pub assemble_answer : AfterAssemble → Result MeshCounts ℕ
assemble_answer t = elim (eqb t.refusal 0) [ true ↦ Ok (counts_answered t) | false ↦ Err t.refusal ]

-- what the definition says of the call, with the answer as assemble gives it
abbrev pub assemble_answered : AfterAssemble → LeftMesh
assemble_answered t = left_mesh (assemble_answer t) t.slices

-- an accepted body assembled, by the definition
abbrev pub assemble_accepted : List ℕ → List Float → List Float → List ℕ → Aabb → List ℕ → ℕ → MeshSlices → AfterAssemble
assemble_accepted table ps ns is box materials default out =
    assemble_or_refuse (rows_of table) materials default (acceptance box materials default (patches_of (rows_of table) ps ns is)) (cleared_mesh (rows_of table) out)
