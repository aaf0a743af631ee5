-- `close_to_last` meets its contract. Assumes nothing.
use Rattle.stitch_entries.proofs.EntryLaws.{last_none, last_is}
use Rattle.stitch_entries.proofs.entries.close_to_last.Goals as goal

pub returns-then-kept-eq0 : goal.returns-then-kept-eq0
returns-then-kept-eq0 c = search last_none

pub returns : goal.returns
returns c = search last_is
