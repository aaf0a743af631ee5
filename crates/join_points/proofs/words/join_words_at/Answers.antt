-- `join_words_at` meets its contract. Assumes nothing.
use Rattle.join_points.proofs.Parts.{joined_part}
use Rattle.join_points.proofs.words.join_words_at.Goals as goal

pub returns : goal.returns
returns c = search joined_part
