-- `join_table::join_table` meets its contract. Assumes nothing.
use Rattle.join_table.proofs.Chains.{Progress}
use Rattle.join_table.specs.Naming.{names_of}
use Rattle.join_table.proofs.join_table.Given as goal

abbrev pub invariant-loop-i : goal.invariant-loop-i
invariant-loop-i l = Progress (names_of l.source l.positions) l.n l.initial.w l.i l.w
