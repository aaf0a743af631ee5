-- `put_numbers` meets its contract. Assumes nothing.
use Rattle.stl_read.proofs.SliceLaws.{numbered_none, numbered_more, numbered_all}
use Rattle.stl_read.proofs.slices.put_numbers.Goals as goal

pub loop-k-init : goal.loop-k-init
loop-k-init c = numbered_none _ _

pub loop-k-preserved : goal.loop-k-preserved
loop-k-preserved c = search numbered_more

pub returns : goal.returns
returns c = search numbered_all
