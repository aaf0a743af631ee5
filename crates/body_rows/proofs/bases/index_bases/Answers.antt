-- `body_rows::bases::index_bases` meets its contract. Assumes nothing.
use borrow.Author.Rules.{rules}
use Rattle.body_rows.specs.Body.{all_indices}
use Rattle.body_rows.specs.Rows.{column_before, indices_before}
use Rattle.body_rows.proofs.bases.index_bases.Goals as goal

pub returns : goal.returns
unfolding column_before indices_before all_indices
returns c = search rules
