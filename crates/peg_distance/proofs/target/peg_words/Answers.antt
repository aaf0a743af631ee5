-- `peg_words` meets its contract. Assumes nothing.
use Rattle.peg_distance.proofs.TargetLaws.{peg_at}
use Rattle.peg_distance.proofs.target.peg_words.Goals as goal

pub returns : goal.returns
returns c = search peg_at
