-- `body_table_checks::table::bad_row` meets its contract. Assumes nothing.
use native.Mathlib.Omega.{arith}
use Rattle.body_table_checks.proofs.TableLaws.{bad_high, bad_patch, bad_failed}
use Rattle.body_table_checks.proofs.table.bad_row.Goals as goal

pub returns-then-o-gt-MOST_OUTCOME : goal.returns-then-o-gt-MOST_OUTCOME
returns-then-o-gt-MOST_OUTCOME c = bad_high _ c.outcome-o.ensures (omega arith)

pub returns-then-o-eq0 : goal.returns-then-o-eq0
returns-then-o-eq0 c = search bad_patch

pub returns : goal.returns
returns c = bad_failed _ c.outcome-o.ensures (omega arith) c.if-o-eq0.false c.vertices.ensures c.indices.ensures
