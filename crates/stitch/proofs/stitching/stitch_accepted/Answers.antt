-- `stitch_accepted` meets its contract. Assumes nothing.
use Rattle.body_checks.specs.Cleared.{clearable}
use Rattle.stitch.proofs.StitchLaws.{accepted_stitched}
use Rattle.stitch.proofs.stitching.stitch_accepted.Goals as goal

pub clear_words-requires : goal.clear_words-requires
clear_words-requires c = search clearable

pub returns : goal.returns
returns c = search accepted_stitched
