-- `settle_group` meets its contract. Assumes nothing.
use Rattle.turn_groups.proofs.GroupLaws.{walked_judgeable, settled}
use Rattle.turn_groups.proofs.settling.settle_group.Goals as goal

pub invert_if-requires : goal.invert_if-requires
invert_if-requires c = search walked_judgeable

pub returns : goal.returns
returns c = search settled
