-- `gather_rows` meets its contract. Assumes nothing.
use Prim.Native.Nat.{◌-◌}
use Rattle.stitch_gather.proofs.GatherLaws.{GatheringRows}
use Rattle.stitch_gather.proofs.gather.gather_rows.Given as goal

abbrev pub invariant-loop-k : goal.invariant-loop-k
invariant-loop-k l = GatheringRows l.rows l.indices l.v l.at l.flags l.initial.w l.found l.base l.i l.k l.w
