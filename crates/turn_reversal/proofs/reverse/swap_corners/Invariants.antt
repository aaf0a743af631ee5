-- `swap_corners` meets its contract. Assumes nothing.
use Prim.Native.Nat.{◌-◌}
use lib.ListN.{length}
use Rattle.turn_reversal.proofs.ReverseLaws.{Swapping}
use Rattle.turn_reversal.proofs.reverse.swap_corners.Given as goal

abbrev pub invariant-loop-k : goal.invariant-loop-k
invariant-loop-k l = Swapping l.initial.indices l.k l.indices

abbrev pub decreases-loop-k : goal.decreases-loop-k
decreases-loop-k l = length l.initial.indices - l.k
