-- `read_bin` meets its contract. Assumes nothing.
use Rattle.plan_read.proofs.ItemLaws.{bin_out, bin_many, bin_stands, near_more}
use borrow.Author.Rules.{rules}
use Rattle.plan_read.proofs.items.read_bin.Goals as goal

pub returns-then-not-sum_in_range : goal.returns-then-not-sum_in_range
returns-then-not-sum_in_range c = search (rules, bin_out)

pub returns-then-room-count : goal.returns-then-room-count
returns-then-room-count c = search (rules, bin_many)

pub put_entry-requires : goal.put_entry-requires
put_entry-requires c = search (rules, near_more)

pub returns : goal.returns
returns c = search (rules, bin_stands)
