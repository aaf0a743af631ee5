-- `join_shells` meets its contract. Assumes nothing.
use Rattle.turn_pairs.proofs.ShellLaws.{shells_joined}
use Rattle.turn_pairs.proofs.shells.join_shells.Goals as goal

pub returns : goal.returns
returns c = search shells_joined
