-- `word_at` meets its contract. Assumes nothing.
use Rattle.stl_read.proofs.CornerLaws.{word_is}
use Rattle.stl_read.proofs.words.word_at.Goals as goal

pub returns : goal.returns
returns c = search word_is
