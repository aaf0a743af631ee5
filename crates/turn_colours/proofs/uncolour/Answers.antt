-- `turn_colours::uncolour` meets its contract. Assumes nothing.
use Rattle.turn_colours.proofs.Colouring.{uncoloured}
use Rattle.turn_colours.proofs.uncolour.Goals as goal

pub returns : goal.returns
returns c = uncoloured c.requires (rw c.colours-colours.ensures at c.fill.ensures)
