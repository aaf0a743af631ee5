-- `put_words` meets its contract. Assumes nothing.
use Rattle.stl_write.proofs.ByteLaws.{words_put}
use Rattle.stl_write.proofs.bytes.put_words.Goals as goal

pub returns : goal.returns
returns c = search words_put
