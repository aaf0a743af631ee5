-- `clear_words` meets its contract. Assumes nothing.
use Rattle.body_checks.proofs.ClearLaws.{needed_held, words_cleared}
use Rattle.body_checks.proofs.clearing.clear_words.Goals as goal

pub clear-requires : goal.clear-requires
clear-requires c = search needed_held

pub returns : goal.returns
returns c = search words_cleared
