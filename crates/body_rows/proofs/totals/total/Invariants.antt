-- `body_rows::totals::total` meets its contract. The sum so far is that of the first k rows. Assumes nothing.
use Prim.Native.Nat.{◌-◌}
use Rattle.body_rows.specs.Rows.{column}
use Rattle.body_rows.proofs.Summing.{Summing}
use Rattle.body_rows.proofs.totals.total.Given as goal

abbrev pub invariant-loop-k : goal.invariant-loop-k
invariant-loop-k l = Summing (column l.j) l.rows l.k l.sum
