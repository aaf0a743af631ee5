-- `finish` writes what the program is to print of what was read. Assumes nothing.
use Rattle.bench_run.specs.Lengths.{ran_answered}
use Rattle.bench.proofs.Lengths.{lengths}
use Rattle.bench.proofs.finish.Goals as goal

pub returns-clause-answered : goal.returns-clause-answered
returns-clause-answered g c = ran_answered _ _ _ _ _ _ _ _ _ _ _ _ lengths _ c.limits.ensures _ _ _ c.finish_input.ensures.ran
