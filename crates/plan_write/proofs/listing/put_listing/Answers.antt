-- `put_listing` meets its contract. Assumes nothing.
use Prim.Native.Nat.{◌-◌}
use borrow.Author.Rules.{rules}
use Rattle.plan_write.proofs.ListingLaws.{entry_there, put_there, putting_all, putting_long, putting_more, putting_none, putting_place}
use Rattle.plan_write.proofs.listing.put_listing.Goals as goal

pub loop-k-init : goal.loop-k-init
loop-k-init c = search (rules, putting_none)

pub entry_words-words-requires : goal.entry_words-words-requires
entry_words-words-requires c = search (rules, entry_there)

pub put_bin-at-requires : goal.put_bin-at-requires
put_bin-at-requires c = search (rules, put_there, putting_place)

pub loop-k-preserved : goal.loop-k-preserved
loop-k-preserved c = search (rules, putting_more)

pub shape_of-out : goal.shape_of-out
shape_of-out c = search (rules, putting_long)

pub returns : goal.returns
returns c = search (rules, putting_all)
