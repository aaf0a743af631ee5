-- `bin_ties` meets its contract. Assumes nothing.
use borrow.Author.Rules.{rules}
use Prim.Native.Nat.{◌-◌}
use Rattle.peg_search.proofs.NextLaws.{seeking_all, seeking_hit, seeking_more, seeking_none}
use Rattle.peg_search.proofs.RowLaws.{coordinates_fit, end_fits, row_there, whole_row}
use Rattle.peg_search.proofs.passes.bin_ties.Goals as goal

pub loop-k-init : goal.loop-k-init
loop-k-init c = search seeking_none

pub vertices-requires : goal.vertices-requires
vertices-requires c = search row_there

pub overflow_mul-to : goal.overflow_mul-to
overflow_mul-to c = search (rules, coordinates_fit)

pub overflow_add-to : goal.overflow_add-to
overflow_add-to c = search (rules, end_fits)

pub row_ties-requires : goal.row_ties-requires
row_ties-requires c = search whole_row

pub returns-then-row_ties : goal.returns-then-row_ties
returns-then-row_ties c = search seeking_hit

pub loop-k-preserved : goal.loop-k-preserved
loop-k-preserved c = search seeking_more

pub returns : goal.returns
returns c = search seeking_all
