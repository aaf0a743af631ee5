-- `list_bins` meets its contract. Assumes nothing.
use borrow.Author.Rules.{rules}
use Prim.Native.Nat.{◌-◌}
use Rattle.peg_search.proofs.ListLaws.{count_few, count_fits, least_is, listing_all, listing_fits, listing_more, listing_nearer, listing_none}
use Rattle.peg_search.proofs.passes.list_bins.Goals as goal

pub loop-b-init : goal.loop-b-init
loop-b-init c = search listing_none

pub list_bin-i-requires : goal.list_bin-i-requires
list_bin-i-requires c = record { placed = search rules; square_value = search least_is; square_lt_beyond = search rules; i_bound = search count_few }

pub overflow_add-b : goal.overflow_add-b
overflow_add-b c = search (rules, listing_fits)

pub loop-b-smaller : goal.loop-b-smaller
loop-b-smaller c = search listing_nearer

pub loop-b-preserved : goal.loop-b-preserved
loop-b-preserved c = search listing_more

pub overflow_add-result : goal.overflow_add-result
overflow_add-result c = search (rules, count_fits)

pub returns : goal.returns
returns c = search listing_all
