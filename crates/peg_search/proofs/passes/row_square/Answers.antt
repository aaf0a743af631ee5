-- `row_square` meets its contract. Assumes nothing.
use Rattle.peg_search.proofs.RowLaws.{row_aimed, row_made}
use Rattle.peg_search.proofs.passes.row_square.Goals as goal

pub row_least-requires : goal.row_least-requires
row_least-requires c = search row_aimed

pub returns : goal.returns
returns c = search row_made
