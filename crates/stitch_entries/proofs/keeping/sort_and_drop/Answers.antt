-- `sort_and_drop` meets its contract. Assumes nothing.
use Rattle.stitch_entries.proofs.KeepLaws.{kept_sorted, sorted_held}
use borrow.Author.Rules.{rules}
use Rattle.stitch_entries.proofs.keeping.sort_and_drop.Goals as goal

pub drop_close-requires : goal.drop_close-requires
drop_close-requires c = search (sorted_held, rules)

pub returns : goal.returns
returns c = search kept_sorted
