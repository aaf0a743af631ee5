-- `write_run` meets its contract. With the words before place p written, the run of the rows before a row is, and that of the rest is left. Assumes nothing.
use Rattle.mesh_runs.proofs.WalkLaws.{Walking}
use Rattle.mesh_runs.proofs.runs.write_run.Given as goal

abbrev pub invariant-loop-p : goal.invariant-loop-p
invariant-loop-p l = Walking l.rows l.indices l.initial.w l.at l.starts l.order l.m l.first l.wanted l.initial.out l.start l.p l.o l.w l.out
