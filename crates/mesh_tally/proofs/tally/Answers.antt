-- `tally` meets its contract. Assumes nothing.
use Rattle.mesh_tally.proofs.TallyLaws.{tallying_none, use_ready, tallying_more, tallying_all}
use Prim.Native.Nat.{◌-◌}
use Rattle.mesh_tally.proofs.tally.Goals as goal

pub loop-i-init : goal.loop-i-init
loop-i-init c = tallying_none _ _ _ c.default-c.ensures

pub with_use-c-requires : goal.with_use-c-requires
with_use-c-requires c = search use_ready

pub loop-i-preserved : goal.loop-i-preserved
loop-i-preserved c = search tallying_more

pub returns : goal.returns
returns c = search tallying_all
