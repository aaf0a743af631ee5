-- `list_runs` meets its contract: after each row the ways of the uses before it are written. Assumes nothing.
use Prim.Native.Nat.{◌-◌}
use lib.ListN.{length, replicate}
use Rattle.body_rows.specs.Body.{rows_of}
use Rattle.edge_uses.specs.Named.{use_run}
use Rattle.edge_first_users.proofs.BodyLaws.{WritingBody}
use Rattle.edge_first_users.proofs.bodies.list_runs.Given as goal

abbrev pub invariant-loop-k : goal.invariant-loop-k
invariant-loop-k l = WritingBody use_run l.rows l.indices l.initial.w (replicate (length (rows_of l.rows)) 0) l.points l.at l.k l.v l.i l.w
