-- `moved` meets its contract. Assumes nothing.
use Rattle.plan_lines.proofs.SumLaws.{moved_to}
use borrow.Author.Rules.{rules}
use Rattle.plan_lines.proofs.places.moved.Goals as goal

pub returns : goal.returns
returns c = search (rules, moved_to)
