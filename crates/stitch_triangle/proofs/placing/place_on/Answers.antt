-- `place_on` meets its contract. Assumes nothing.
use Rattle.stitch_triangle.proofs.PlacingLaws.{placed}
use Rattle.stitch_triangle.proofs.placing.place_on.Goals as goal

pub returns : goal.returns
returns c = search placed
