-- `write_refusal` meets its contract. Assumes nothing.
use Rattle.sheet_answer.proofs.WholeLaws.{refusal_written}
use borrow.Author.Rules.{rules}
use Rattle.sheet_answer.proofs.write_refusal.Goals as goal

pub returns : goal.returns
returns c = search (rules, refusal_written)
