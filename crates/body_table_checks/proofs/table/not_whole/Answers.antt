-- `body_table_checks::table::not_whole` meets its contract. Assumes nothing.
use Rattle.body_table_checks.proofs.TableLaws.{whole_not, whole_many}
use Rattle.body_table_checks.proofs.table.not_whole.Goals as goal

pub returns-then-table-ne0 : goal.returns-then-table-ne0
returns-then-table-ne0 c = search whole_not

pub returns : goal.returns
returns c = search whole_many
