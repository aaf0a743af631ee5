-- `body_rows::bases::vertex_bases` meets its contract. Assumes nothing.
use borrow.Author.Rules.{rules}
use Rattle.body_rows.specs.Body.{all_vertices}
use Rattle.body_rows.specs.Rows.{column_before, vertices_before}
use Rattle.body_rows.proofs.bases.vertex_bases.Goals as goal

pub returns : goal.returns
unfolding column_before vertices_before all_vertices
returns c = search rules
