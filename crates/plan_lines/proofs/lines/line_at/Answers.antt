-- `line_at` meets its contract. Assumes nothing.
use Rattle.plan_lines.proofs.KindLaws.{found_none, found_line}
use borrow.Author.Rules.{rules}
use Rattle.plan_lines.proofs.lines.line_at.Goals as goal

pub returns-then-text-at : goal.returns-then-text-at
returns-then-text-at c = search (rules, found_none)

pub returns : goal.returns
returns c = search (rules, found_line)
