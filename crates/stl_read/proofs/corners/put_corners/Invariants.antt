-- `put_corners` meets its contract. Assumes nothing.
use Rattle.stl_read.proofs.CornerLaws.{Putting}
use Rattle.stl_read.proofs.corners.put_corners.Given as goal

abbrev pub invariant-loop-t : goal.invariant-loop-t
invariant-loop-t l = Putting l.file l.n l.t l.initial.positions l.positions
