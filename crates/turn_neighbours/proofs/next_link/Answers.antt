-- `turn_neighbours::next_link` meets its contract, by its test. Assumes nothing.
use Rattle.turn_walk.specs.Links.{next_own, next_far}
use Rattle.turn_neighbours.proofs.next_link.Goals as goal

pub returns-then-a-x : goal.returns-then-a-x
returns-then-a-x c = rw c.own_links.ensures (next_own c.requires (rw c.use_rows.ensures at c.if-a-x.true))

pub returns : goal.returns
returns c = rw c.far_links.ensures (next_far c.requires (rw c.use_rows.ensures at c.if-a-x.false))
