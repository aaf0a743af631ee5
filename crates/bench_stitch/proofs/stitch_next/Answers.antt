-- `stitch_next` meets its contract. Assumes nothing.
use mathlib.Core.Path.{◌∙◌}
use Rattle.bench_stitch.proofs.StitchLaws.{stitched_text_lem}
use Rattle.bench_stitch.proofs.stitch_next.Goals as goal

pub returns : goal.returns
returns c = stitched_text_lem _ _ _ _ _ _ _ _ _ _ _ _ _ _ _ _ _ _ _ _ _ _ _ _ c.print_stitched.ensures c.stitch-given.ensures
