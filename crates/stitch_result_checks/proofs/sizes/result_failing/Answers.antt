-- `stitch_result_checks::sizes::result_failing` meets its contract. Assumes nothing.
use Rattle.stitch_result_checks.proofs.ResultLaws.{result_vertices, result_indices, result_short, result_none}
use Rattle.stitch_result_checks.proofs.sizes.result_failing.Goals as goal

pub returns-then-vertices-gt-MOST_VERTICES : goal.returns-then-vertices-gt-MOST_VERTICES
returns-then-vertices-gt-MOST_VERTICES c = search result_vertices

pub returns-then-indices-gt-MOST_INDICES : goal.returns-then-indices-gt-MOST_INDICES
returns-then-indices-gt-MOST_INDICES c = search result_indices

pub returns-then-too_short : goal.returns-then-too_short
returns-then-too_short c = search result_short

pub returns : goal.returns
returns c = search result_none
