-- `count_rows` meets its contract. Assumes nothing.
use Prim.Native.Nat.{◌-◌}
use Rattle.stitch_count.proofs.BodyCountLaws.{CountingRows}
use Rattle.stitch_count.proofs.count.count_rows.Given as goal

abbrev pub invariant-loop-k : goal.invariant-loop-k
invariant-loop-k l = CountingRows l.rows l.positions l.indices l.f.sag l.f.v l.f.list l.f.count l.f.at l.f.ts l.f.flags l.initial.w l.t.found l.t.placed l.base l.i l.k l.w
