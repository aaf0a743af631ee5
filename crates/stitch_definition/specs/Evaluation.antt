-- A claim that says `unfolding evaluation` has every definition of this crate and of those below it computed. Assumes nothing.
use Rattle.std.specs.Prelude.{ℕ}
use Rattle.body_refusals.specs.Evaluation as Refusals
use Rattle.stitch_rings.specs.Evaluation as Rings
use Rattle.stitch_definition.specs.StitchedBody.{new_normal, coordinates, ring, fanned, stitched_patch, stitched_patches, stitched_body_of, stitched_body}
use Rattle.stitch_definition.specs.Slices.{stitch_checks, write_body, refuse_stitch, cleared_slices, stitch_or_refuse}
use Rattle.stitch_definition.specs.Stitch.{stitch_body, stitch_of}

-- every definition that computes
unfoldable pub evaluation : ℕ
unfolding Refusals.evaluation Rings.evaluation new_normal coordinates ring fanned stitched_patch stitched_patches stitched_body_of stitched_body stitch_checks write_body refuse_stitch cleared_slices
    stitch_or_refuse stitch_body stitch_of
evaluation = 0
