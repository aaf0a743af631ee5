-- `body_rows::bases::bases` meets its contract. The first k words say where their rows start. Assumes nothing.
use Prim.Native.Nat.{◌-◌}
use Rattle.body_rows.specs.Rows.{column}
use Rattle.body_rows.proofs.Starting.{Starting}
use Rattle.body_rows.proofs.bases.bases.Given as goal

abbrev pub invariant-loop-k : goal.invariant-loop-k
invariant-loop-k l = Starting (column l.j) l.rows l.initial.w l.k l.w l.base
