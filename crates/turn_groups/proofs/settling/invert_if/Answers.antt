-- `invert_if` meets its contract. Assumes nothing.
use Rattle.turn_groups.proofs.GroupLaws.{judged_yes, judged_no}
use Rattle.turn_groups.proofs.settling.invert_if.Goals as goal

pub returns-then-inverted : goal.returns-then-inverted
returns-then-inverted c = search judged_yes

pub returns : goal.returns
returns c = search judged_no
