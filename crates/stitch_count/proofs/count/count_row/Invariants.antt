-- `count_row` meets its contract. Assumes nothing.
use Rattle.stitch_count.proofs.RowCountLaws.{Counting}
use Rattle.stitch_count.proofs.count.count_row.Given as goal

abbrev pub invariant-loop-k : goal.invariant-loop-k
invariant-loop-k l = Counting l.positions l.indices l.f.sag l.f.v l.f.list l.f.count l.f.at l.f.ts l.f.flags l.base l.from l.to l.fn.before.found l.fn.before.placed l.initial.w l.t.found l.t.placed l.k l.w
