-- `put_bin` meets its contract. Assumes nothing.
use Rattle.plan_write.proofs.EntryLaws.{words_wrote}
use borrow.Author.Rules.{rules}
use Rattle.plan_write.proofs.entries.put_bin.Goals as goal

pub returns : goal.returns
returns c = search (rules, words_wrote)
