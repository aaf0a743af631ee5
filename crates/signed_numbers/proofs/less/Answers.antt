-- `less` meets its contract. Assumes nothing.
use Rattle.signed_numbers.proofs.Laws.{less_fits, less_is}
use Rattle.signed_numbers.proofs.less.Goals as goal

pub overflow_sub-result : goal.overflow_sub-result
overflow_sub-result c = search less_fits

pub returns : goal.returns
returns c = search less_is
