-- `point_cell::nearest_size` meets its contract. Assumes nothing.
use Rattle.point_cell.proofs.Fields.{digits_fit, size_low, quotient_fits, size_mid, size_high, size_nan, size_inf, size_over}
use Rattle.point_cell.proofs.nearest_size.Goals as goal

pub overflow_mul-a : goal.overflow_mul-a
overflow_mul-a c = search digits_fit

pub returns-then-e-lt105 : goal.returns-then-e-lt105
returns-then-e-lt105 c = search size_low

pub half_up-requires : goal.half_up-requires
half_up-requires c = search quotient_fits

pub returns-then-e-lt150 : goal.returns-then-e-lt150
returns-then-e-lt150 c = search size_mid

pub returns-then-e-lt171 : goal.returns-then-e-lt171
returns-then-e-lt171 c = search size_high

pub returns-then-t-ne0 : goal.returns-then-t-ne0
returns-then-t-ne0 c = search size_nan

pub returns-else-t-ne0 : goal.returns-else-t-ne0
returns-else-t-ne0 c = search size_inf

pub returns-else-e-eq255 : goal.returns-else-e-eq255
returns-else-e-eq255 c = search size_over
