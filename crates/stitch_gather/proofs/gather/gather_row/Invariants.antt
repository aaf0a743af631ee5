-- `gather_row` meets its contract. Assumes nothing.
use Rattle.stitch_gather.proofs.GatherLaws.{Gathering}
use Rattle.stitch_gather.proofs.gather.gather_row.Given as goal

abbrev pub invariant-loop-k : goal.invariant-loop-k
invariant-loop-k l = Gathering l.indices l.v l.at l.count l.base l.from l.to l.flags l.initial.w l.found l.k l.w
