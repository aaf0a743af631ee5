-- `turn_chains::far_row` meets its contract: a first use is a use, so its row stands in the area. Assumes nothing.
use Rattle.turn_chains.proofs.Chaining.{first_index, far_read}
use native.Mathlib.Omega.{arith}
use Rattle.turn_chains.proofs.far_row.Goals as goal

pub overflow_add-result : goal.overflow_add-result
overflow_add-result c = rw c.use_rows.ensures (omega (arith, first_index c.requires))

pub offset_bounds-w-use_rows : goal.offset_bounds-w-use_rows
offset_bounds-w-use_rows c = rw c.use_rows.ensures (omega (arith, first_index c.requires))

pub bounds-w-use_rows : goal.bounds-w-use_rows
bounds-w-use_rows c = rw c.use_rows.ensures (first_index c.requires)

pub returns : goal.returns
returns c = rw c.use_rows.ensures (far_read c.requires)
