-- `put_point` meets its contract. Assumes nothing.
use native.Mathlib.Omega.{arith}
use lib.ListN.{length-set}
use Rattle.stl_read.proofs.CornerLaws.{point_put}
use Rattle.stl_read.proofs.corners.put_point.Goals as goal

pub bounds-positions-o-2 : goal.bounds-positions-o-2
bounds-positions-o-2 c = simp length-set (omega arith)

pub bounds-positions-o-3 : goal.bounds-positions-o-3
bounds-positions-o-3 c = simp length-set (omega arith)

pub returns : goal.returns
returns c = search point_put
