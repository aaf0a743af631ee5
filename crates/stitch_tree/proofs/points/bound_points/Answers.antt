-- `stitch_tree::bound_points` meets its contract. Assumes nothing.
use Prim.Native.Nat.{◌-◌}
use native.Mathlib.Omega.{arith}
use Rattle.stitch_tree.proofs.PointLaws.{bounding_none, point_held, bounding_more, bounding_all}
use Rattle.stitch_tree.proofs.points.bound_points.Goals as goal

pub loop-j-init : goal.loop-j-init
loop-j-init c = search bounding_none

pub point_at-requires : goal.point_at-requires
point_at-requires c = search point_held

pub loop-j-preserved : goal.loop-j-preserved
loop-j-preserved c = search bounding_more

pub returns : goal.returns
returns c = search bounding_all
