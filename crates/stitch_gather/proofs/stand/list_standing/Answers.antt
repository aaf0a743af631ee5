-- `list_standing` meets its contract. Assumes nothing.
use Prim.Native.Nat.{◌-◌}
use Rattle.stitch_gather.proofs.ListLaws.{listing_none, listing_more, listing_all, place_ready}
use Rattle.stitch_gather.proofs.stand.list_standing.Goals as goal

pub loop-j-init : goal.loop-j-init
loop-j-init c = search listing_none

pub put_standing-requires : goal.put_standing-requires
put_standing-requires c = search place_ready

pub loop-j-preserved : goal.loop-j-preserved
loop-j-preserved c = search listing_more

pub returns : goal.returns
returns c = search listing_all
