-- `finish_bin` writes what the program is to print of the sheet, if it is more than a refusal. Assumes nothing.
use Rattle.bench_finish.specs.Whole.{told_count}
use Rattle.bench_run.specs.Lengths.{finished_short}
use Rattle.bench_run.specs.Smaller.{bin_faces, bin_spacious, bin_within, yard_bodies}
use Rattle.bench_yard.proofs.Lengths.{bin_lengths}
use Rattle.bench_yard.proofs.finish_bin.Goals as goal

pub returns-clause-finished_short : goal.returns-clause-finished_short
returns-clause-finished_short c =
    finished_short _ _ _ _ _ _ _ _ _ _ _ _ bin_lengths _ bin_within bin_spacious bin_faces yard_bodies _ c.bin_limits.ensures _ _ c.with_limits.ensures _ _ _
    c.answer_sheet.ensures

pub returns-clause-upper_bound : goal.returns-clause-upper_bound
returns-clause-upper_bound c = told_count _ _ _ _ _ c.answer_sheet.ensures
