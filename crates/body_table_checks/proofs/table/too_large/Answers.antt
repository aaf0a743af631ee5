-- `body_table_checks::table::too_large` meets its contract. Assumes nothing.
use Rattle.body_table_checks.proofs.TableLaws.{large_totals}
use Rattle.body_table_checks.proofs.table.too_large.Goals as goal

pub returns : goal.returns
returns c = search large_totals
