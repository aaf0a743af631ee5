-- `stitch_tree::bound_node` meets its contract. Assumes nothing.
use Rattle.stitch_tree.proofs.NodeLaws.{node_bounded}
use Rattle.stitch_tree.proofs.boxes.bound_node.Goals as goal

pub returns : goal.returns
returns c = search node_bounded
