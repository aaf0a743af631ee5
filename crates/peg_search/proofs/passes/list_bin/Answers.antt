-- `list_bin` meets its contract. Assumes nothing.
use Rattle.peg_search.proofs.ListLaws.{one_kept, one_put}
use Rattle.peg_search.proofs.passes.list_bin.Goals as goal

pub returns-then-not-bin_ties : goal.returns-then-not-bin_ties
returns-then-not-bin_ties c = search one_kept

pub returns : goal.returns
returns c = search one_put
