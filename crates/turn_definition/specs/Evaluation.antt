-- A claim that says `unfolding evaluation` has every definition of this crate and of those below it computed. Assumes nothing.
use Rattle.std.specs.Prelude.{ℕ}
use Rattle.point_rules.specs.Evaluation as Points
use Rattle.body_refusals.specs.Evaluation as Refusals
use Rattle.patch_measures.specs.Evaluation as Measures
use Rattle.edge_uses.specs.Evaluation as Edges
use Rattle.turn_walk.specs.Evaluation as Walk
use Rattle.turn_definition.specs.Pairs.{pair_of, pairs_of}
use Rattle.turn_definition.specs.Inversion.{patch_at, volume_from, indices_on, inverts}
use Rattle.turn_definition.specs.Groups.{add_group, walks_from}
use Rattle.turn_definition.specs.Reversal.{swapped, turned_patch, turned_body}
use Rattle.turn_definition.specs.Orient.{walks_of, turn_body, refuse_turn, turn_of}

-- every definition that computes
unfoldable pub evaluation : ℕ
unfolding Points.evaluation Refusals.evaluation Measures.evaluation Edges.evaluation Walk.evaluation pair_of pairs_of patch_at volume_from indices_on inverts add_group walks_from swapped turned_patch
    turned_body walks_of turn_body refuse_turn turn_of
evaluation = 0
