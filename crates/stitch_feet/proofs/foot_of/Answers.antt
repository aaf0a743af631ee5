-- `stitch_feet::foot_of` meets its contract. Assumes nothing.
use Rattle.stitch_projection.specs.Projection.{near_end, far_end}
use Rattle.stitch_feet.proofs.FootLaws.{foot_none, foot_near, foot_far, foot_inside}
use Rattle.stitch_feet.proofs.foot_of.Goals as goal

pub returns-then-squared : goal.returns-then-squared
returns-then-squared c = search foot_none

pub returns-then-t-2 : goal.returns-then-t-2
unfolding near_end far_end
returns-then-t-2 c = search foot_inside

pub returns-else-t-2 : goal.returns-else-t-2
unfolding near_end far_end
returns-else-t-2 c = search foot_far

pub returns-else-t : goal.returns-else-t
unfolding near_end far_end
returns-else-t c = search foot_near
