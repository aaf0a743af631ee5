-- `begin` meets its contract. Assumes nothing.
use Rattle.sheet_ends.proofs.BeginLaws.{begun_long, begun_short}
use borrow.Author.Rules.{rules}
use Rattle.sheet_ends.proofs.begin.Goals as goal

pub returns-then-materials-face : goal.returns-then-materials-face
returns-then-materials-face c = search (rules, begun_short)

pub returns : goal.returns
returns c = search (rules, begun_long)
