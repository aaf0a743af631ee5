-- `put_counts` meets its contract. Assumes nothing.
use Rattle.stitch_write.proofs.TableLaws.{row_put}
use Rattle.stitch_write.proofs.table.put_counts.Goals as goal

pub returns : goal.returns
returns c = search row_put
