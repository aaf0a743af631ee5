-- A claim that says `unfolding evaluation` has every definition of this crate and of those below it computed. Assumes nothing.
use Rattle.std.specs.Prelude.{ℕ}
use Rattle.point_rules.specs.Evaluation as Points
use Rattle.stitch_projection.specs.Evaluation as Projection
use Rattle.stitch_loose_points.specs.Evaluation as Loose
use Rattle.stitch_splits.specs.Splits.{
  side_of,
  sides_of,
  same_cell,
  splits,
  found_on,
  found_from,
  nearer,
  place_on,
  place_from,
  place,
  insert_placed,
  sort_placed,
  near_last,
  drop_near,
  drop_close,
  kept_on,
  split_triangle,
}

-- every definition that computes
unfoldable pub evaluation : ℕ
unfolding Points.evaluation Projection.evaluation Loose.evaluation side_of sides_of same_cell splits found_on found_from nearer place_on place_from place insert_placed sort_placed near_last drop_near drop_close
    kept_on split_triangle
evaluation = 0
