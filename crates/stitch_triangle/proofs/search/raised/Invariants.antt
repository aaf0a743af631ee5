-- `raised` meets its contract. Assumes nothing.
use Rattle.stitch_triangle.proofs.NodeLaws.{Raising}
use Rattle.stitch_triangle.proofs.search.raised.Given as goal

abbrev pub invariant-loop-h : goal.invariant-loop-h
invariant-loop-h l = Raising l.leaf l.height l.top l.h
