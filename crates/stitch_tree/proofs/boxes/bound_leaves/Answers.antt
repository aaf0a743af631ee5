-- `stitch_tree::bound_leaves` meets its contract. Assumes nothing.
use Rattle.stitch_tree.proofs.LeafLaws.{leaves_none, leaf_ready, leaves_more, leaves_all}
use Prim.Native.Nat.{◌-◌}
use Rattle.stitch_tree.proofs.boxes.bound_leaves.Goals as goal

pub loop-i-init : goal.loop-i-init
loop-i-init c = search leaves_none

pub bound_leaf-requires : goal.bound_leaf-requires
bound_leaf-requires c = search leaf_ready

pub loop-i-preserved : goal.loop-i-preserved
loop-i-preserved c = search leaves_more

pub returns : goal.returns
returns c = search leaves_all
