-- `stitch_result_checks::sizes::too_short` meets its contract. Assumes nothing.
use Rattle.stitch_result_checks.proofs.ResultLaws.{short_rows, short_positions, short_normals, short_indices}
use Rattle.stitch_result_checks.proofs.sizes.too_short.Goals as goal

pub returns-then-out_rows-rows : goal.returns-then-out_rows-rows
returns-then-out_rows-rows c = search short_rows

pub returns-then-out_positions-vertices : goal.returns-then-out_positions-vertices
returns-then-out_positions-vertices c = search short_positions

pub returns-then-out_normals-vertices : goal.returns-then-out_normals-vertices
returns-then-out_normals-vertices c = search short_normals

pub returns : goal.returns
returns c = search short_indices
