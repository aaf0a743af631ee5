-- `stitch_tree::bound_nodes` meets its contract. Assumes nothing.
use Rattle.stitch_tree.proofs.NodeLaws.{nodes_none, node_ready, nodes_more, nodes_all}
use Rattle.stitch_tree.proofs.boxes.bound_nodes.Goals as goal

pub loop-k-init : goal.loop-k-init
loop-k-init c = search nodes_none

pub bound_node-requires : goal.bound_node-requires
bound_node-requires c = search node_ready

pub loop-k-preserved : goal.loop-k-preserved
loop-k-preserved c = search nodes_more

pub returns : goal.returns
returns c = search nodes_all
