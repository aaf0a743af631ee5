-- `list_rows` meets its contract: after each row the numbers of those before it are written. Assumes nothing.
use Prim.Native.Nat.{◌-◌}
use Rattle.edge_first_users.proofs.BodyLaws.{Numbering}
use Rattle.edge_first_users.proofs.bodies.list_rows.Given as goal

abbrev pub invariant-loop-k : goal.invariant-loop-k
invariant-loop-k l = Numbering l.rows l.initial.w l.at l.k l.i l.w
