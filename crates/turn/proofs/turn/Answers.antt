-- `turn` meets its contract. Assumes nothing.
use Rattle.refusals.specs.Laws.{going_on, none_failing}
use Rattle.turn.proofs.TurnLaws.{body_passed, call_done, call_kept}
use Rattle.turn.proofs.turn.Goals as goal

pub turn_accepted-requires : goal.turn_accepted-requires
turn_accepted-requires c = search (body_passed, none_failing, going_on)

pub returns : goal.returns
returns c = search (call_done, call_kept, none_failing, going_on, c.type_inv.positions)
