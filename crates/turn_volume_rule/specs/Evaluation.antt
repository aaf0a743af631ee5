-- A claim that says `unfolding evaluation` has every definition of this crate and of those below it computed. Assumes nothing.
use Rattle.std.specs.Prelude.{ℕ}
use Rattle.turn_definition.specs.Evaluation as Turning
use Rattle.turn_volume_rule.specs.Exact.{
  whole_of,
  is_whole,
  whole_at,
  exact_det,
  exact_triangles,
  exact_rows,
  largest,
  largest_of,
  triangles_in,
  largest_in,
  exact_volume,
  bound,
  volume_of,
  within_bound,
  exact_left,
  volume_left,
  left_outward,
  rule_holds,
}

-- every definition that computes
unfoldable pub evaluation : ℕ
unfolding Turning.evaluation whole_of is_whole whole_at exact_det exact_triangles exact_rows largest largest_of triangles_in largest_in exact_volume bound volume_of within_bound exact_left volume_left left_outward
    rule_holds
evaluation = 0
