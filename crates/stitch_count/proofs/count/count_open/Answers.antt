-- `count_open` meets its contract. Assumes nothing.
use Rattle.stitch_count.proofs.ClearLaws.{triangle_counted, triangle_cleared}
use Rattle.stitch_count.proofs.count.count_open.Goals as goal

pub returns-then-r-eq0 : goal.returns-then-r-eq0
returns-then-r-eq0 c = search triangle_cleared

pub returns-else-r-eq0 : goal.returns-else-r-eq0
returns-else-r-eq0 c = search triangle_counted
