-- `stitch_tree::make_tree` meets its contract. Assumes nothing.
use Rattle.stitch_tree.proofs.TreeLaws.{order_ready, leaves_ready, nodes_ready, tree_made}
use native.Mathlib.Omega.{arith}
use Rattle.stitch_tree.proofs.tree.make_tree.Goals as goal

pub order_points-requires : goal.order_points-requires
order_points-requires c =
    order_ready c.requires c.height-top.ensures c.power-leaves.ensures

pub bound_leaves-requires : goal.bound_leaves-requires
bound_leaves-requires c =
    leaves_ready c.requires c.height-top.ensures c.power-leaves.ensures c.order_points.ensures

pub bound_nodes-requires : goal.bound_nodes-requires
bound_nodes-requires c =
    nodes_ready c.requires c.height-top.ensures c.power-leaves.ensures c.order_points.ensures c.bound_leaves.ensures (omega arith)

pub returns : goal.returns
returns c =
    tree_made c.requires c.height-top.ensures c.power-leaves.ensures c.order_points.ensures c.bound_leaves.ensures (omega arith) c.bound_nodes.ensures (omega arith)
