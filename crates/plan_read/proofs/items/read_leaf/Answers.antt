-- `read_leaf` meets its contract. Assumes nothing.
use Rattle.plan_read.proofs.ItemLaws.{bin_number, bin_offset, leaf_bin, leaf_close, leaf_end, leaf_malformed, leaf_open}
use borrow.Author.Rules.{rules}
use Rattle.plan_read.proofs.items.read_leaf.Goals as goal

pub read_bin-requires : goal.read_bin-requires
read_bin-requires c = search (rules, bin_number, bin_offset)

pub returns-in-Open : goal.returns-in-Open
returns-in-Open c = search (rules, leaf_open)

pub returns-in-Bin : goal.returns-in-Bin
returns-in-Bin c = search (rules, leaf_bin)

pub returns-in-Close : goal.returns-in-Close
returns-in-Close c = search (rules, leaf_close)

pub returns-in-Malformed : goal.returns-in-Malformed
returns-in-Malformed c = search (rules, leaf_malformed)

pub returns-in-End : goal.returns-in-End
returns-in-End c = search (rules, leaf_end)
