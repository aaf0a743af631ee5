-- `any_not_finite` meets its contract. Assumes nothing.
use Rattle.stl_read.proofs.CornerLaws.{Looked}
use Rattle.stl_read.proofs.corners.any_not_finite.Given as goal

abbrev pub invariant-loop-t : goal.invariant-loop-t
invariant-loop-t l = Looked l.file l.n l.t l.found
