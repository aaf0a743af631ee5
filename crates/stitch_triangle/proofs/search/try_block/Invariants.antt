-- `try_block` meets its contract. Assumes nothing.
use Rattle.stitch_triangle.proofs.SearchLaws.{Trying}
use Rattle.stitch_triangle.proofs.search.try_block.Given as goal

abbrev pub invariant-loop-j : goal.invariant-loop-j
invariant-loop-j l = Trying l.positions l.f.sag l.s l.f.v l.f.order l.f.count l.from l.end l.e l.f.at l.f.ts l.fn.before.found l.fn.before.placed l.initial.w l.t.found l.t.placed l.j l.w
