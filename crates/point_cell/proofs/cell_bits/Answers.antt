-- `point_cell::cell_bits` meets its contract. Assumes nothing.
use Rattle.point_cell.proofs.Signs.{bits_small, bits_large, bits_none, bits_some}
use Rattle.point_cell.proofs.cell_bits.Goals as goal

pub returns-then-n-lt-LIMIT : goal.returns-then-n-lt-LIMIT
returns-then-n-lt-LIMIT c = search bits_small

pub returns-else-n-lt-LIMIT : goal.returns-else-n-lt-LIMIT
returns-else-n-lt-LIMIT c = search bits_large

pub returns-then-n-eq0 : goal.returns-then-n-eq0
returns-then-n-eq0 c = search bits_none

pub returns-else-n-eq0 : goal.returns-else-n-eq0
returns-else-n-eq0 c = search bits_some
