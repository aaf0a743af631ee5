-- `stitch_rows` meets its contract. Assumes nothing.
use Rattle.stitch.proofs.StitchLaws.{sag_above, sag_not_above}
use Rattle.stitch.proofs.stitching.stitch_rows.Goals as goal

pub returns-then-sag : goal.returns-then-sag
returns-then-sag c = search sag_above

pub returns : goal.returns
returns c = search sag_not_above
