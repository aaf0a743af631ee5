-- `body_rows::totals::work_needed` meets its contract. Assumes nothing.
use Rattle.body_rows.proofs.Summing.{needed_is}
use Rattle.body_rows.proofs.totals.work_needed.Goals as goal

pub returns : goal.returns
returns c = search needed_is
