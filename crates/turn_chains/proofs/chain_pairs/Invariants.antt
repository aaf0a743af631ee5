-- `turn_chains::chain_pairs` meets its contract: the uses from `i` on are in the chains. Assumes nothing.
use Rattle.turn_chains.proofs.Chaining.{Chaining}
use Rattle.turn_chains.proofs.chain_pairs.Given as goal

abbrev pub invariant-loop-i : goal.invariant-loop-i
invariant-loop-i l = Chaining l.regions.uses l.regions.rows l.initial.w l.i l.w
