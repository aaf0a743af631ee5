-- `check_entry` meets its contract. Assumes nothing.
use Rattle.plan_write.proofs.EntryLaws.{bin_refused, entry_many, entry_passes, place_refused}
use borrow.Author.Rules.{rules}
use Rattle.plan_write.proofs.entries.check_entry.Goals as goal

pub returns-then-not-bin_in_range : goal.returns-then-not-bin_in_range
returns-then-not-bin_in_range c = search (rules, bin_refused)

pub returns-then-not-place_in_range : goal.returns-then-not-place_in_range
returns-then-not-place_in_range c = search (rules, place_refused)

pub returns-then-k-ge-MOST_ENTRIES : goal.returns-then-k-ge-MOST_ENTRIES
returns-then-k-ge-MOST_ENTRIES c = search (rules, entry_many)

pub returns : goal.returns
returns c = search (rules, entry_passes)
