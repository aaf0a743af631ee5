-- The three edge counts of a mesh, and when it is closed. Assumes nothing.
use Rattle.std.specs.Prelude.{Bool, ◌&&◌, List, [], ℕ, length, ltb, eqb, Float}
use Rattle.lists.specs.Lists.{count_if}
use Rattle.point_rules.specs.Rule.{Rule, names}
use Rattle.point_rules.specs.Points.{zeros}
use Rattle.join_definition.specs.Join.{joined}
use Rattle.body_rows.specs.Body.{triangles_of}
use Rattle.edge_uses.specs.Edges.{triangle_uses, uses_of, first_uses}

-- edges, open (one use), over (more than two)
pub record Counts : Type 0 where
  pub edges : ℕ
  pub opens : ℕ
  pub overs : ℕ

-- the counts over a mesh's positions and indices, points joined by a rule; edges with equal ends are skipped
unfoldable pub counts_of : Rule → List Float → List ℕ → Counts
counts_of rule ps is =
    let uses = triangle_uses 0 0 (joined (names rule ps)) (triangles_of is) in
    let firsts = first_uses [] uses in
    record {
      edges = length firsts;
      opens = count_if (λ u. eqb (uses_of uses u) 1) firsts;
      overs = count_if (λ u. ltb 2 (uses_of uses u)) firsts;
    }

-- whether open and over are both 0
unfoldable pub closed_by : Counts → Bool
closed_by c = eqb c.opens 0 && eqb c.overs 0

-- Closed, if open and over are both 0 where the two zeros are one point; the counts themselves keep the source's rule.
unfoldable pub closed_mesh : List Float → List ℕ → Bool
closed_mesh ps is = closed_by (counts_of zeros ps is)
