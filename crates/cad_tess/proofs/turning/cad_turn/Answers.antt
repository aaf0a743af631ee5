-- `cad_turn` meets its contract. Assumes nothing.
use Rattle.cad_tess.proofs.TurnLaws.{call_left, call_kept}
use Rattle.cad_tess.proofs.turning.cad_turn.Goals as goal

pub returns : goal.returns
returns c =
    search (call_left, call_kept, c.shared_slice_known-2-1.given)
