-- `list_standing` meets its contract. Assumes nothing.
use Prim.Native.Nat.{◌-◌}
use Rattle.stitch_gather.proofs.ListLaws.{Listing}
use Rattle.stitch_gather.proofs.stand.list_standing.Given as goal

abbrev pub invariant-loop-j : goal.invariant-loop-j
invariant-loop-j l = Listing l.v l.at l.ts l.n l.initial.w l.j l.w
