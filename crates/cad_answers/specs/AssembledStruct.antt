-- The struct of an answer that is done is the struct that the definition's answer is. Assumes nothing.
use Rattle.std.specs.Prelude.{◌≡◌, Ok}
use Rattle.mesh_definition.specs.Assemble.{AfterAssemble}
use Rattle.mesh_definition.specs.Assembled.{counts_answered}
use Rattle.cad_answers.specs.Assembling.{cad_assembled, cad_mesh_answer}

-- where the definition refuses nothing
pub done_is : (t : AfterAssemble) → 0 ≡ t.refusal → cad_assembled (Ok (counts_answered t)) ≡ cad_mesh_answer t
done_is t e =
    λ j. record {
      refusal = e j;
      vertices = t.vertices;
      indices = t.indices;
      parts = t.parts;
      ranges = t.ranges;
      failures = t.failures;
      edges = t.counts.edges;
      opens = t.counts.opens;
      overs = t.counts.overs;
      closed = (cad_mesh_answer t).closed;
    }
