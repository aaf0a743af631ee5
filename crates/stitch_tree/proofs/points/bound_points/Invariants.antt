-- `stitch_tree::bound_points` meets its contract. Assumes nothing.
use Prim.Native.Nat.{◌-◌}
use Rattle.stitch_tree.proofs.PointLaws.{Bounding}
use Rattle.stitch_tree.proofs.points.bound_points.Given as goal

abbrev pub invariant-loop-j : goal.invariant-loop-j
invariant-loop-j l = Bounding l.positions l.from l.j l.w l.b
