-- `word_at` meets its contract. Assumes nothing.
use Rattle.plan_write.proofs.WordLaws.{word_asked, word_in, word_out}
use Rattle.plan_write.proofs.entries.word_at.Goals as goal

pub returns-then-not-in_range : goal.returns-then-not-in_range
returns-then-not-in_range c = search word_out

pub word_of-requires : goal.word_of-requires
word_of-requires c = search word_asked

pub returns : goal.returns
returns c = search word_in
