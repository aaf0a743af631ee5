-- `stitch_boxes::least_off` meets its contract. Assumes nothing.
use Rattle.stitch_boxes.proofs.CodeLaws.{off_is}
use Rattle.stitch_boxes.proofs.least_off.Goals as goal

pub returns : goal.returns
returns c = search off_is
