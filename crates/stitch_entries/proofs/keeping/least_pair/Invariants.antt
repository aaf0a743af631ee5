-- `least_pair` meets its contract. Of the first j pairs the one at k is the least. Assumes nothing.
use Rattle.stitch_entries.proofs.KeepLaws.{Lowest}
use Rattle.stitch_entries.proofs.keeping.least_pair.Given as goal

abbrev pub invariant-loop-j : goal.invariant-loop-j
invariant-loop-j l = Lowest l.at l.ts l.n l.w l.k l.j
