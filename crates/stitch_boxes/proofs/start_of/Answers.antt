-- `stitch_boxes::start_of` meets its contract. Assumes nothing.
use Rattle.stitch_projection.specs.Projection.{near_end, far_end}
use Rattle.stitch_boxes.proofs.CodeLaws.{start_yes, start_no}
use Rattle.stitch_boxes.proofs.start_of.Goals as goal

pub returns-then-low : goal.returns-then-low
unfolding near_end far_end
returns-then-low c = search start_yes

pub returns : goal.returns
unfolding near_end far_end
returns c = search start_no
