-- `finish_input` writes what the program is to print of what was read. Assumes nothing.
use Rattle.bench_finish.specs.Whole.{told_count}
use Rattle.bench_run.specs.Run.{ran}
use Rattle.bench_run.proofs.finish_input.Goals as goal

pub returns-clause-ran : goal.returns-clause-ran
returns-clause-ran g c = ran _ _ _ _ _ _ _ _ _ _ _ _ _ _ _ _ _ c.read_input-s.ensures c.answer_sheet.ensures

pub returns-clause-upper_bound : goal.returns-clause-upper_bound
returns-clause-upper_bound g c = told_count _ _ _ _ _ c.answer_sheet.ensures
