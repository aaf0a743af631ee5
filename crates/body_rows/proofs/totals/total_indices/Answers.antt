-- `body_rows::totals::total_indices` meets its contract. Assumes nothing.
use borrow.Author.Rules.{rules}
use Rattle.body_rows.specs.Body.{all_indices}
use Rattle.body_rows.proofs.totals.total_indices.Goals as goal

pub returns : goal.returns
unfolding all_indices
returns c = search rules
