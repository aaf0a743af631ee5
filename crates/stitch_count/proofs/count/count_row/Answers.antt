-- `count_row` meets its contract. Assumes nothing.
use Rattle.stitch_count.proofs.RowCountLaws.{counting_none, counting_stopped, counting_all, next_ready, counting_more}
use native.Mathlib.Omega.{arith}
use Rattle.stitch_count.proofs.count.count_row.Goals as goal

pub loop-k-init : goal.loop-k-init
loop-k-init c = search counting_none

pub returns-then-too_many : goal.returns-then-too_many
returns-then-too_many c = search counting_stopped

pub count_triangle-r-requires : goal.count_triangle-r-requires
count_triangle-r-requires c = search next_ready

pub loop-k-preserved : goal.loop-k-preserved
loop-k-preserved c = search counting_more

pub returns : goal.returns
returns c = search counting_all

pub returns-else-too_many : goal.returns-else-too_many
returns-else-too_many c =
    counting_all c.requires (counting_more c.requires c.loop-k.invariant c.loop-k-test.true c.count_triangle-r.ensures (omega arith)) (omega arith)
