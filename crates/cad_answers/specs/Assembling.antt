-- What cad_assemble answers and leaves. Assumes nothing.
use Rattle.mesh_definition.specs.declared.MeshCounts.{MeshCounts}
use Rattle.std.specs.Prelude.{cond, ℕ, Result, Ok, Err}
use Rattle.mesh_room.specs.Slices.{MeshSlices}
use Rattle.mesh_definition.specs.Assemble.{AfterAssemble}
use Rattle.cad_answers.specs.declared.assembling.CadAssembled.{CadAssembled}

-- 01's number and values for each answer
abbrev pub cad_assembled : Result MeshCounts ℕ → CadAssembled
cad_assembled (Ok c) =
    record {
      refusal = 0;
      vertices = c.vertices;
      indices = c.indices;
      parts = c.parts;
      ranges = c.ranges;
      failures = c.failures;
      edges = c.edges;
      opens = c.opens;
      overs = c.overs;
      closed = cond c.closed 1 0;
    }
cad_assembled (Err n) = record { refusal = n; vertices = 0; indices = 0; parts = 0; ranges = 0; failures = 0; edges = 0; opens = 0; overs = 0; closed = 0 }

-- cad_assemble's answer, and what the lent slices hold
pub record CadLeftMesh : Type 0 where
  pub answer : CadAssembled
  pub slices : MeshSlices

-- the answer with the slices
abbrev pub cad_left_mesh : CadAssembled → MeshSlices → CadLeftMesh
cad_left_mesh r s = record { answer = r; slices = s }

-- the struct that the definition's answer is: closed is 1 or 0
abbrev pub cad_mesh_answer : AfterAssemble → CadAssembled
cad_mesh_answer t =
    record {
      refusal = t.refusal;
      vertices = t.vertices;
      indices = t.indices;
      parts = t.parts;
      ranges = t.ranges;
      failures = t.failures;
      edges = t.counts.edges;
      opens = t.counts.opens;
      overs = t.counts.overs;
      closed = cond t.closed 1 0;
    }

-- what the definition says of the call, with the answer as cad_assemble gives it
abbrev pub cad_mesh_answered : AfterAssemble → CadLeftMesh
cad_mesh_answered t = cad_left_mesh (cad_mesh_answer t) t.slices
