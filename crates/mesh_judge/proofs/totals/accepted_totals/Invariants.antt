-- `accepted_totals` meets its contract. With k rows done, the totals and what is left make the whole. Assumes nothing.
use Rattle.mesh_judge.proofs.TotalLaws.{Totalling}
use Rattle.mesh_judge.proofs.totals.accepted_totals.Given as goal

abbrev pub invariant-loop-k : goal.invariant-loop-k
invariant-loop-k l = Totalling l.rows l.w l.at l.k l.t
