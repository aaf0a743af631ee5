-- `reach::reach::reach_from` meets its contract. What is left to look at gives the same reach at each turn, from the root of the square so far. Assumes nothing.
use Rattle.patch_reach.proofs.ReachLaws.{Reaching}
use Rattle.patch_reach.proofs.reach.reach_from.Given as goal

abbrev pub invariant-loop-i : goal.invariant-loop-i
invariant-loop-i l = Reaching l.positions l.c l.i l.far
