-- `turn_chains::clear_heads` meets its contract. Assumes nothing.
use Rattle.turn_chains.proofs.Chaining.{heads_cleared}
use Rattle.turn_chains.proofs.clear_heads.Goals as goal

pub returns : goal.returns
returns c = heads_cleared c.requires (rw (c.heads-heads.ensures, c.queue.ensures) at c.fill.ensures)
