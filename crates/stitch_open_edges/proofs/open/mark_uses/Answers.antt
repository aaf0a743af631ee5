-- `mark_uses` meets its contract. Assumes nothing.
use Prim.Native.Nat.{◌-◌}
use Rattle.stitch_open_edges.proofs.FlagLaws.{marking_none, flag_ready, marking_more, marking_all}
use Rattle.stitch_open_edges.proofs.open.mark_uses.Goals as goal

pub loop-i-init : goal.loop-i-init
loop-i-init c = search marking_none

pub flag_at-requires : goal.flag_at-requires
flag_at-requires c = search flag_ready

pub loop-i-preserved : goal.loop-i-preserved
loop-i-preserved c = search marking_more

pub returns : goal.returns
returns c = search marking_all
