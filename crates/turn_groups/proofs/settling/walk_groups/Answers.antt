-- `walk_groups` meets its contract. Assumes nothing.
use Rattle.turn_groups.proofs.RootLaws.{groups_ready, groups_walked}
use native.Mathlib.Omega.{arith}
use Rattle.turn_groups.proofs.settling.walk_groups.Goals as goal

pub settle_groups-requires : goal.settle_groups-requires
settle_groups-requires c =
    groups_ready c.requires c.chain_pairs.ensures (omega arith) c.uncolour.ensures (omega arith) c.lay_bases.ensures (omega arith)

pub returns : goal.returns
returns c = search groups_walked
