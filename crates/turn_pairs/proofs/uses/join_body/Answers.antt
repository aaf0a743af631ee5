-- `join_body` meets its contract. Assumes nothing.
use Rattle.turn_pairs.proofs.StageLaws.{points_fit, shells_ready, body_joined}
use Rattle.turn_pairs.proofs.uses.join_body.Goals as goal

pub join_points-requires : goal.join_points-requires
join_points-requires c = search points_fit

pub join_shells-requires : goal.join_shells-requires
join_shells-requires c = search shells_ready

pub returns : goal.returns
returns c = search body_joined
