-- `join_points::vertices::join_points` meets its contract. Assumes nothing.
use Rattle.join_points.proofs.Rules.{points_ready, points_joined}
use Rattle.join_points.proofs.vertices.join_points.Goals as goal

pub join_table-requires : goal.join_table-requires
join_table-requires c = search points_ready

pub returns : goal.returns
returns c = search points_joined
