-- `join_points::words::join_words` meets its contract. Assumes nothing.
use Rattle.join_points.proofs.Rules.{words_ready}
use Rattle.join_table.specs.Naming.{names_of}
use borrow.Author.Rules.{rules}
use Rattle.join_points.proofs.words.join_words.Goals as goal

pub join_table-requires : goal.join_table-requires
unfolding names_of
join_table-requires c = search words_ready

pub returns : goal.returns
unfolding names_of
returns c = search rules
