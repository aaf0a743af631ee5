-- `raised` meets its contract. Assumes nothing.
use Rattle.stitch_triangle.proofs.NodeLaws.{raising_start, raising_more, raising_done, raising_end}
use Rattle.stitch_triangle.proofs.search.raised.Goals as goal

pub loop-h-init : goal.loop-h-init
loop-h-init c = search raising_start

pub returns-then-leaf-h-eq1 : goal.returns-then-leaf-h-eq1
returns-then-leaf-h-eq1 c = search raising_done

pub loop-h-preserved : goal.loop-h-preserved
loop-h-preserved c = search raising_more

pub returns : goal.returns
returns c = search raising_end
