-- `verdict_of` meets its contract. Each branch is one case of the definition. Assumes nothing.
use Rattle.mesh_verdicts.proofs.VerdictLaws.{upstream_is, empty_is, other_is}
use Rattle.mesh_verdicts.proofs.verdict.verdict_of.Goals as goal

pub returns-then-outcome-ne0 : goal.returns-then-outcome-ne0
returns-then-outcome-ne0 c = search upstream_is

pub returns-then-indices-eq0 : goal.returns-then-indices-eq0
returns-then-indices-eq0 c = search empty_is

pub returns : goal.returns
returns c = search other_is
