-- `far` meets its contract. Assumes nothing.
use Rattle.stitch_boxes.proofs.CodeLaws.{far_beside, far_last}
use Rattle.stitch_projection.specs.Projection.{near_end, far_end}
use Rattle.stitch_boxes.proofs.far.Goals as goal

pub returns-then-least_off-beyond : goal.returns-then-least_off-beyond
unfolding near_end far_end
returns-then-least_off-beyond c = search far_beside

pub returns : goal.returns
unfolding near_end far_end
returns c = search far_last
