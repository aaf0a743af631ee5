-- `put_listing` meets its contract. Assumes nothing.
use Prim.Native.Nat.{◌-◌}
use Rattle.plan_write.proofs.ListingLaws.{Putting}
use Rattle.plan_write.proofs.listing.put_listing.Given as goal

abbrev pub invariant-loop-k : goal.invariant-loop-k
invariant-loop-k l = Putting l.list l.initial.out l.out l.at l.k
