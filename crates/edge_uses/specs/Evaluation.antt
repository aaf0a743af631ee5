-- A claim that says `unfolding evaluation` has every definition of this crate and of those below it computed. Assumes nothing.
use Rattle.std.specs.Prelude.{ℕ}
use Rattle.point_rules.specs.Evaluation as Points
use Rattle.join_definition.specs.Evaluation as Joining
use Rattle.body_rows.specs.Evaluation as Body
use Rattle.edge_uses.specs.Edges.{triangle_uses, uses_from, skipped, same_edge, first_user, uses_of, is_open, first_uses}

-- every definition that computes
unfoldable pub evaluation : ℕ
unfolding Points.evaluation Joining.evaluation Body.evaluation triangle_uses uses_from skipped same_edge first_user uses_of is_open first_uses
evaluation = 0
