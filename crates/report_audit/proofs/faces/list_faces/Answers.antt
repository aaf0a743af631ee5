-- `list_faces` meets its contract: the first k numbers are written. Assumes nothing.
use Prim.Native.Nat.{◌-◌}
use Rattle.report_audit.proofs.FaceLaws.{listing_none, listing_more, listing_all}
use Rattle.report_audit.proofs.faces.list_faces.Goals as goal

pub loop-k-init : goal.loop-k-init
loop-k-init c = search listing_none

pub loop-k-preserved : goal.loop-k-preserved
loop-k-preserved c = search listing_more

pub returns : goal.returns
returns c = search listing_all
