-- `append_pair` meets its contract. Assumes nothing.
use Rattle.stitch_entries.proofs.AppendLaws.{pair_appended}
use Rattle.stitch_entries.proofs.entries.append_pair.Goals as goal

pub returns : goal.returns
returns c = search pair_appended
