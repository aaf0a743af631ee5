-- `put_row` meets its contract. Assumes nothing.
use Rattle.stl_read.proofs.slices.put_row.Goals as goal

pub returns : goal.returns
returns c = c.put.ensures.appended
