-- `stitch_tree::settle` meets its contract. Assumes nothing.
use Rattle.stitch_tree.proofs.OrderLaws.{settling_none, settle_ready, settling_front, settling_back}
use Rattle.stitch_tree.proofs.order.settle.Goals.{then-middle-cut, else-middle-cut}
use Rattle.stitch_tree.proofs.order.settle.Goals as goal

pub loop-init : goal.loop-init
loop-init c = search settling_none

pub extent-s-requires : goal.extent-s-requires
extent-s-requires c = search settle_ready

pub part-cut-requires : goal.part-cut-requires
part-cut-requires c = search settle_ready

pub loop-preserved : goal.loop-preserved
loop-preserved c =
    elim c.if-middle-cut.branch [
      | then-middle-cut w ↦ rw (w.a-is, w.b-is) (settling_front c.requires c.loop.invariant c.part-cut.ensures)
      | else-middle-cut w ↦ rw (w.a-is, w.b-is) (settling_back c.requires c.loop.invariant c.part-cut.ensures)
    ]
