-- `find_best` meets its contract. Assumes nothing.
use borrow.Author.Rules.{rules}
use Prim.Native.Nat.{◌-◌}
use Rattle.peg_search.proofs.BestLaws.{finding_all, finding_more, finding_none}
use Rattle.peg_search.proofs.RowLaws.{coordinates_fit, end_fits, end_there, row_range, row_there}
use Rattle.peg_search.proofs.passes.find_best.Goals as goal

pub loop-k-init : goal.loop-k-init
loop-k-init c = search finding_none

pub vertices-requires : goal.vertices-requires
vertices-requires c = search row_there

pub overflow_mul-to : goal.overflow_mul-to
overflow_mul-to c = search (rules, coordinates_fit)

pub overflow_add-to : goal.overflow_add-to
overflow_add-to c = search (rules, end_fits)

pub row_square-square-requires : goal.row_square-square-requires
row_square-square-requires c = search (rules, end_there, row_range, row_there)

pub bin-requires : goal.bin-requires
bin-requires c = search row_there

pub loop-k-preserved : goal.loop-k-preserved
loop-k-preserved c = search finding_more

pub returns : goal.returns
returns c = search finding_all
