-- `word_at` meets its contract. Assumes nothing.
use Rattle.join_points.proofs.Rules.{key_word, bits_word, zeros_word}
use Rattle.join_points.proofs.vertices.word_at.Goals as goal

pub returns-in-Key : goal.returns-in-Key
returns-in-Key c = search key_word

pub returns-in-Bits : goal.returns-in-Bits
returns-in-Bits c = search bits_word

pub returns-in-Zeros : goal.returns-in-Zeros
returns-in-Zeros c = search zeros_word
