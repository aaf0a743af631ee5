-- What the program prints of what the calls give. Assumes nothing.
use Rattle.std.specs.Prelude.{List, ℕ}
use Rattle.sheet_answer_text.specs.declared.Sizes.{Sizes}
use Rattle.sheet_answer_text.specs.declared.Tallies.{Tallies}
use Rattle.sheet_answer_text.specs.Answer.{count_text, mesh_text}
use Rattle.turn_definition.specs.Orient.{AfterTurn}
use Rattle.stitch_definition.specs.Slices.{AfterStitch}
use Rattle.mesh_definition.specs.Assemble.{AfterAssemble}

-- how much assemble wrote
abbrev pub sizes_of : AfterAssemble → Sizes
sizes_of a = record { vertices = a.vertices; indices = a.indices; parts = a.parts; ranges = a.ranges; failures = a.failures }

-- the mesh
unfoldable pub mesh_lines : AfterAssemble → List ℕ
mesh_lines a =
    let out = a.slices in
    mesh_text (sizes_of a) out.vertices.positions out.vertices.normals out.indices out.parts out.ranges out.failures

-- what was counted; ok is the number of accepted rows, each of which has a range
abbrev pub tallies_of : AfterTurn → AfterStitch → AfterAssemble → Tallies
tallies_of t s a =
    record {
      turned = t.turned;
      against = t.against;
      split = s.splits;
      ok = a.ranges;
      edges = a.counts.edges;
      opens = a.counts.opens;
      overs = a.counts.overs;
      closed = a.closed;
    }

-- the counts
unfoldable pub count_lines : AfterTurn → AfterStitch → AfterAssemble → List ℕ
count_lines t s a = count_text (tallies_of t s a)
