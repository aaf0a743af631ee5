-- `stitch_boxes::end_of` meets its contract. Assumes nothing.
use Rattle.stitch_projection.specs.Projection.{near_end, far_end}
use Rattle.stitch_boxes.proofs.CodeLaws.{end_yes, end_no}
use Rattle.stitch_boxes.proofs.end_of.Goals as goal

pub returns-then-high : goal.returns-then-high
unfolding near_end far_end
returns-then-high c = search end_yes

pub returns : goal.returns
unfolding near_end far_end
returns c = search end_no
