-- `settle_groups` meets its contract: after k rows the definition's walks go on at row k. Assumes nothing.
use Rattle.turn_groups.proofs.RootLaws.{Walking}
use Rattle.turn_groups.proofs.settling.settle_groups.Given as goal

abbrev pub invariant-loop-k : goal.invariant-loop-k
invariant-loop-k l = Walking l.rows l.positions l.indices l.regions.uses l.regions.rows l.k l.initial.w l.w l.against
