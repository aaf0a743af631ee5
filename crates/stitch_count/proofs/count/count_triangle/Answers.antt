-- `count_triangle` meets its contract. Assumes nothing.
use Rattle.stitch_count.proofs.ClearLaws.{closed_counted}
use Rattle.stitch_count.proofs.count.count_triangle.Goals as goal

pub returns : goal.returns
returns c = search closed_counted
