-- `reach::reach::distance_squared` meets its contract. Assumes nothing.
use Rattle.patch_reach.proofs.ReachLaws.{square_is}
use Rattle.patch_reach.proofs.reach.distance_squared.Goals as goal

pub returns : goal.returns
returns c = search square_is
