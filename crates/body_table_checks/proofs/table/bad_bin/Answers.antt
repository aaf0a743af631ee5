-- `body_table_checks::table::bad_bin` meets its contract. Assumes nothing.
use Rattle.body_table_checks.proofs.TableLaws.{bin_high}
use Rattle.body_table_checks.proofs.table.bad_bin.Goals as goal

pub returns : goal.returns
returns c = search bin_high
