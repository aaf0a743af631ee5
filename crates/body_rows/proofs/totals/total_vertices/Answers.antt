-- `body_rows::totals::total_vertices` meets its contract. Assumes nothing.
use borrow.Author.Rules.{rules}
use Rattle.body_rows.specs.Body.{all_vertices}
use Rattle.body_rows.proofs.totals.total_vertices.Goals as goal

pub returns : goal.returns
unfolding all_vertices
returns c = search rules
