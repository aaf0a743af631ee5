-- `stitch_sag::within_sag` meets its contract. Assumes nothing.
use Rattle.stitch_sag.proofs.SagLaws.{within_outside, within_beyond, within_root}
use Rattle.stitch_sag.proofs.within_sag.Goals as goal

pub returns-then-d-beyond : goal.returns-then-d-beyond
returns-then-d-beyond c = search within_beyond

pub returns-in-None : goal.returns-in-None
returns-in-None c = search within_outside

pub returns-else-d-beyond : goal.returns-else-d-beyond
returns-else-d-beyond c = search within_root
