-- A claim that says `unfolding evaluation` has every definition of this crate and of those below it computed. Assumes nothing.
use Rattle.std.specs.Prelude.{ℕ}
use Rattle.point_rules.specs.Evaluation as Points
use Rattle.edge_uses.specs.Evaluation as Edges
use Rattle.mesh_counts.specs.Counts.{counts_of, closed_by, closed_mesh}

-- every definition that computes
unfoldable pub evaluation : ℕ
unfolding Points.evaluation Edges.evaluation counts_of closed_by closed_mesh
evaluation = 0
