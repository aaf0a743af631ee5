-- `square_at` meets its contract. Assumes nothing.
use Rattle.peg_distance.proofs.DistanceLaws.{far_x, far_y, far_z, square_sum}
use Rattle.peg_distance.proofs.distance.square_at.Goals as goal

pub returns-then-x-gt-REACH : goal.returns-then-x-gt-REACH
returns-then-x-gt-REACH c = search far_x

pub returns-then-y-gt-REACH : goal.returns-then-y-gt-REACH
returns-then-y-gt-REACH c = search far_y

pub returns-then-z-gt-REACH : goal.returns-then-z-gt-REACH
returns-then-z-gt-REACH c = search far_z

pub returns : goal.returns
returns c = search square_sum
