-- `body_table_checks::table::any_bad_row` meets its contract. The first k rows are not bad. Assumes nothing.
use Prim.Native.Nat.{◌-◌}
use Rattle.lists.specs.Any.{Searched}
use Rattle.body_refusals.specs.TableChecks.{bad_row}
use Rattle.body_rows.specs.Body.{rows_of}
use Rattle.body_table_checks.proofs.table.any_bad_row.Given as goal

abbrev pub invariant-loop-k : goal.invariant-loop-k
invariant-loop-k l = Searched bad_row (rows_of l.table) l.k
