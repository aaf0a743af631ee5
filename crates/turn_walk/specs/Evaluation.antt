-- A claim that says `unfolding evaluation` has every definition of this crate and of those below it computed. Assumes nothing.
use Rattle.std.specs.Prelude.{ℕ}
use Rattle.lists.specs.Evaluation as Lists
use Rattle.turn_walk.specs.Walk.{meet, neighbours, visit, walk, inverted}
use Rattle.turn_walk.specs.Uses.{records, agrees, pair_at, pairs_from}

-- every definition that computes
unfoldable pub evaluation : ℕ
unfolding Lists.evaluation meet neighbours visit walk inverted records agrees pair_at pairs_from
evaluation = 0
