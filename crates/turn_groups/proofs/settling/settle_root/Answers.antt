-- `settle_root` meets its contract. Assumes nothing.
use Rattle.turn_groups.proofs.RootLaws.{root_empty, root_visited, root_fresh, root_settled}
use Rattle.turn_groups.proofs.settling.settle_root.Goals as goal

pub returns-then-count-eq0 : goal.returns-then-count-eq0
returns-then-count-eq0 c = search root_empty

pub settle_group-requires : goal.settle_group-requires
settle_group-requires c =
    root_fresh c.requires c.colour-colour.ensures c.if-colour-eq-UNVISITED.true

pub returns-then-colour-eq-UNVISITED : goal.returns-then-colour-eq-UNVISITED
returns-then-colour-eq-UNVISITED c = search root_settled

pub returns : goal.returns
returns c = search root_visited
