-- `find_all` meets its contract. Assumes nothing.
use Rattle.stitch_triangle.proofs.TreeLaws.{search_closed, searching_none, box_ready, leaf_few, fewer_passed, fewer_tried, searching_passed, searching_lower, block_ready, searching_tried, searching_all}
use borrow.Author.Rules.{rules}
use Prim.Native.Nat.{◌-◌}
use Rattle.stitch_triangle.proofs.search.find_all.Goals as goal

pub returns-then-not-side : goal.returns-then-not-side
returns-then-not-side c = search search_closed

pub loop-leaf-init : goal.loop-leaf-init
loop-leaf-init c = search searching_none

pub is_far-passed-requires : goal.is_far-passed-requires
is_far-passed-requires c = search box_ready

pub overflow_add-leaf : goal.overflow_add-leaf
overflow_add-leaf c =
    let n = leaf_few c.requires c.first_height-highest.ensures c.loop-leaf.invariant c.loop-leaf-test.true c.power.ensures in
    search rules

pub loop-leaf-smaller-then-passed : goal.loop-leaf-smaller-then-passed
loop-leaf-smaller-then-passed c =
    fewer_passed c.requires c.first_height-highest.ensures c.loop-leaf.invariant c.loop-leaf-test.true c.power.ensures c.raised-height.ensures

pub loop-leaf-preserved-then-passed : goal.loop-leaf-preserved-then-passed
loop-leaf-preserved-then-passed c =
    searching_passed c.requires c.first_height-highest.ensures c.loop-leaf.invariant c.loop-leaf-test.true c.side_of-side.ensures
    c.is_far-passed.ensures c.if-passed.true c.power.ensures c.raised-height.ensures

pub loop-leaf-preserved-then-height-gt0 : goal.loop-leaf-preserved-then-height-gt0
loop-leaf-preserved-then-height-gt0 c = search searching_lower

pub try_block-t-requires : goal.try_block-t-requires
try_block-t-requires c =
    block_ready c.requires c.first_height-highest.ensures c.loop-leaf.invariant c.loop-leaf-test.true

pub loop-leaf-smaller : goal.loop-leaf-smaller
loop-leaf-smaller c =
    fewer_tried c.requires c.first_height-highest.ensures c.loop-leaf.invariant c.loop-leaf-test.true c.raised-height-else-height-gt0.ensures

pub loop-leaf-preserved : goal.loop-leaf-preserved
loop-leaf-preserved c = search searching_tried

pub returns : goal.returns
returns c = search searching_all
