-- `point_cell::cell_value` meets its contract. Assumes nothing.
use Rattle.point_cell.proofs.Signs.{number_small, plus_large, minus_none, number_some, less_one, zero_less_that, one_lower}
use Rattle.point_cell.proofs.cell_value.Goals as goal

pub overflow_cast-result-else-n-eq0 : goal.overflow_cast-result-else-n-eq0
overflow_cast-result-else-n-eq0 c = search less_one

pub overflow_sub-result-else-n-eq0 : goal.overflow_sub-result-else-n-eq0
overflow_sub-result-else-n-eq0 c = search zero_less_that

pub overflow_sub-result-else-n-eq0-2 : goal.overflow_sub-result-else-n-eq0-2
overflow_sub-result-else-n-eq0-2 c = search one_lower

pub returns-then-n-lt-LIMIT : goal.returns-then-n-lt-LIMIT
returns-then-n-lt-LIMIT c = search number_small

pub returns-else-n-lt-LIMIT : goal.returns-else-n-lt-LIMIT
returns-else-n-lt-LIMIT c = search plus_large

pub returns-then-n-eq0 : goal.returns-then-n-eq0
returns-then-n-eq0 c = search minus_none

pub returns-else-n-eq0 : goal.returns-else-n-eq0
returns-else-n-eq0 c = search number_some
