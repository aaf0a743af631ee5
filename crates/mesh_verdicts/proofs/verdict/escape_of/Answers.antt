-- `escape_of` meets its contract. Each branch is one case of the definition. Assumes nothing.
use Rattle.mesh_verdicts.proofs.VerdictLaws.{stays_empty, stays_point, stays_near, escapes_far}
use Rattle.mesh_verdicts.proofs.verdict.escape_of.Goals as goal

pub returns-then-is_empty : goal.returns-then-is_empty
returns-then-is_empty c = search stays_empty

pub returns-then-reach-reference : goal.returns-then-reach-reference
returns-then-reach-reference c = search escapes_far

pub returns-else-reach-reference : goal.returns-else-reach-reference
returns-else-reach-reference c = search stays_near

pub returns-else-reference : goal.returns-else-reference
returns-else-reference c = search stays_point
