-- `store_low` meets its contract. Assumes nothing.
use Rattle.sheet_storing.proofs.StoreLaws.{low_stored}
use Rattle.sheet_storing.proofs.store_low.Goals as goal

pub returns : goal.returns
returns c = low_stored c.args.s.now _ c.args.at c.args.i _ _ _ c.args.numbers.now c.low-a.ensures c.low-b.ensures c.low-c.ensures c.requires.at_in_bounds c.put.ensures.stored
