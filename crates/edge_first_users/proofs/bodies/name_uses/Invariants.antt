-- `name_uses` meets its contract: after each row the uses of those before it are named. Assumes nothing.
use Prim.Native.Nat.{◌-◌}
use lib.ListN.{drop}
use Rattle.edge_uses.specs.Named.{use_name}
use Rattle.edge_first_users.proofs.BodyLaws.{WritingBody}
use Rattle.edge_first_users.proofs.bodies.name_uses.Given as goal

abbrev pub invariant-loop-k : goal.invariant-loop-k
invariant-loop-k l = WritingBody use_name l.rows l.indices l.initial.w (drop l.shells l.initial.w) l.points l.at l.k l.v l.i l.w
