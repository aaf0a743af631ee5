-- `list_shells` meets its contract: the first k numbers are written. Assumes nothing.
use Prim.Native.Nat.{◌-◌}
use Rattle.turn_pairs.proofs.ShellLaws.{Listing}
use Rattle.turn_pairs.proofs.shells.list_shells.Given as goal

abbrev pub invariant-loop-k : goal.invariant-loop-k
invariant-loop-k l = Listing l.rows l.initial.w l.at l.k l.w
