-- `check_listing` meets its contract. Assumes nothing.
use Prim.Native.Nat.{◌-◌}
use Rattle.plan_write.proofs.ListingLaws.{Checking}
use Rattle.plan_write.proofs.listing.check_listing.Given as goal

abbrev pub invariant-loop-k : goal.invariant-loop-k
invariant-loop-k l = Checking l.list l.total l.k
