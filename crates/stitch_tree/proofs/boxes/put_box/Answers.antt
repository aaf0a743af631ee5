-- `stitch_tree::put_box` meets its contract. Assumes nothing.
use Rattle.stitch_tree.proofs.WordLaws.{box_put}
use Rattle.stitch_tree.proofs.boxes.put_box.Goals as goal

pub returns : goal.returns
returns c =
    box_put _ c.put_span.ensures c.put_span-2.ensures c.put_span-3.ensures
