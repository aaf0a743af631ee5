-- `line_end` meets its contract. Assumes nothing.
use borrow.Author.Rules.{rules}
use Rattle.plan_lines.proofs.EndLaws.{line_fed, line_unfed}
use Rattle.plan_lines.proofs.lines.line_end.Goals as goal

pub returns-in-Some : goal.returns-in-Some
returns-in-Some c = search (rules, line_fed)

pub returns-in-None : goal.returns-in-None
returns-in-None c = search (rules, line_unfed)
