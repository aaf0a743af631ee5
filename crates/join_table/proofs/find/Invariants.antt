-- `join_table::find` meets its contract. Assumes nothing.
use Rattle.join_table.specs.Table.{Walk}
use Rattle.join_table.specs.Naming.{names_of}
use lib.ListN.{take}
use Rattle.join_table.proofs.find.Given as goal

abbrev pub invariant-loop-p : goal.invariant-loop-p
invariant-loop-p l = Walk (names_of l.source l.positions (take l.n l.w)) (take l.n l.w) l.n l.i l.p

abbrev pub decreases-loop-p : goal.decreases-loop-p
decreases-loop-p l = l.p
