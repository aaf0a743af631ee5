-- `line_length` meets its contract. Assumes nothing.
use Rattle.plan_write.proofs.EntryLaws.{line_measured}
use borrow.Author.Rules.{rules}
use Rattle.plan_write.proofs.entries.line_length.Goals as goal

pub returns : goal.returns
returns c = search (rules, line_measured)
