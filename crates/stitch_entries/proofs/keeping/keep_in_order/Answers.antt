-- `keep_in_order` meets its contract. Assumes nothing.
use Rattle.stitch_entries.proofs.KeepLaws.{kept_none, kept_least}
use Rattle.stitch_entries.proofs.keeping.keep_in_order.Goals as goal

pub returns-then-n-eq0 : goal.returns-then-n-eq0
returns-then-n-eq0 c = search kept_none

pub returns-then-all_close : goal.returns-then-all_close
returns-then-all_close c =
    kept_least c.requires (λ i. (c.slice_known-1.given i).fits) c.least_pair-k.ensures c.all_close.ensures c.if-all_close.true c.keep_pair.ensures
