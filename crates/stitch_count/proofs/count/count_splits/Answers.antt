-- `count_splits` meets its contract. Assumes nothing.
use Rattle.stitch_count.proofs.EmptyLaws.{none_loose}
use Rattle.stitch_count.proofs.count.count_splits.Goals as goal

pub returns-then-f-eq0 : goal.returns-then-f-eq0
returns-then-f-eq0 c = search none_loose
