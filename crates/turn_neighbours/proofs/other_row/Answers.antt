-- `turn_neighbours::other_row` meets its contract, by its test. Assumes nothing.
use Rattle.turn_neighbours.proofs.Across.{other_far, other_own}
use Rattle.turn_neighbours.proofs.other_row.Goals as goal

pub returns-then-a-x : goal.returns-then-a-x
returns-then-a-x c = other_far c.requires (rw c.use_rows.ensures at c.if-a-x.true) c.far_row.ensures

pub returns : goal.returns
returns c = rw c.use_rows.ensures (other_own c.requires (rw c.use_rows.ensures at c.if-a-x.false))
