-- `word_of` meets its contract. Assumes nothing.
use borrow.Author.Rules.{rules}
use Rattle.signed_numbers.proofs.Laws.{word_fits, word_is}
use Rattle.signed_numbers.proofs.word_of.Goals as goal

pub overflow_add-result : goal.overflow_add-result
overflow_add-result c = search (rules, word_fits)

pub returns : goal.returns
returns c = search (rules, word_fits, word_is)
