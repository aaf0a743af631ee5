-- `body_table_checks::table::any_bad_bin` meets its contract. The first k rows have no bin that is too high. Assumes nothing.
use Prim.Native.Nat.{◌-◌}
use Rattle.lists.specs.Any.{Searched}
use Rattle.body_refusals.specs.TableChecks.{bad_bin}
use Rattle.body_rows.specs.Body.{rows_of}
use Rattle.body_table_checks.proofs.table.any_bad_bin.Given as goal

abbrev pub invariant-loop-k : goal.invariant-loop-k
invariant-loop-k l = Searched bad_bin (rows_of l.table) l.k
