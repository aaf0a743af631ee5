-- `body_table_checks::table::any_bad_bin` meets its contract. The first k rows have no bin that is too high. Assumes nothing.
use Prim.Native.Nat.{◌-◌}
use native.Mathlib.Omega.{arith}
use mathlib.Core.Path.{sym, ◌∙◌}
use Rattle.lists.specs.Any.{searched_none, searched_more, searched_hit, searched_all}
use Rattle.body_refusals.specs.TableChecks.{bad_bin}
use Rattle.body_rows.specs.Rows.{no_row, row_at}
use Rattle.body_table_checks.proofs.table.any_bad_bin.Goals as goal

pub loop-k-init : goal.loop-k-init
loop-k-init c = searched_none bad_bin _

pub returns-then-bad_bin : goal.returns-then-bad_bin
unfolding row_at
returns-then-bad_bin c = searched_hit no_row c.loop-k.invariant (omega arith) (sym c.bad_bin.ensures ∙ c.if-bad_bin.true)

pub loop-k-preserved : goal.loop-k-preserved
unfolding row_at
loop-k-preserved c = searched_more no_row c.loop-k.invariant (omega arith) (sym c.bad_bin.ensures ∙ c.if-bad_bin.false)

pub returns : goal.returns
returns c = searched_all c.loop-k.invariant (omega arith)
