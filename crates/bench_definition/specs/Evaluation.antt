-- A claim that says `unfolding evaluation` has every definition of this crate and of those below it computed. Assumes nothing.
use Rattle.std.specs.Prelude.{ℕ}
use Rattle.turn_definition.specs.Evaluation as Turning
use Rattle.stitch_definition.specs.Evaluation as Stitched
use Rattle.mesh_definition.specs.Evaluation as Assemble
use Rattle.sheet_line_order.specs.Limits.{bench_limits}
use Rattle.bench_definition.specs.Finish.{area, stitch_slices, mesh_slices, assemble_next, stitch_next, finish}
use Rattle.bench_definition.specs.Parts.{turn_numbers, sheet_patches, sheet_facets, placed_numbers, split_numbers, splits_at, placed_at, placed_of, with_splits, all_with_splits, finish_from}

-- every definition that computes
unfoldable pub evaluation : ℕ
unfolding Turning.evaluation Stitched.evaluation Assemble.evaluation bench_limits area stitch_slices mesh_slices assemble_next stitch_next finish turn_numbers sheet_patches sheet_facets placed_numbers
    split_numbers splits_at placed_at placed_of with_splits all_with_splits finish_from
evaluation = 0
