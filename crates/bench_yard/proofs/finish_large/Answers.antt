-- `finish_large` writes what the program is to print of the sheet. Assumes nothing.
use Rattle.bench_finish.specs.Whole.{told_count}
use Rattle.bench_run.specs.Lengths.{finished_in}
use Rattle.bench_yard.proofs.Lengths.{lengths}
use Rattle.bench_yard.proofs.finish_large.Goals as goal

pub returns-clause-finished_in : goal.returns-clause-finished_in
returns-clause-finished_in c = finished_in _ _ _ _ _ _ _ _ _ _ _ _ lengths _ _ _ _ c.answer_sheet.ensures

pub returns-clause-upper_bound : goal.returns-clause-upper_bound
returns-clause-upper_bound c = told_count _ _ _ _ _ c.answer_sheet.ensures
