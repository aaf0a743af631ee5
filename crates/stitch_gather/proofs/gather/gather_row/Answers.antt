-- `gather_row` meets its contract. Assumes nothing.
use Rattle.stitch_gather.proofs.GatherLaws.{gathering_none, gathering_more, gathering_all, row_triangle}
use native.Mathlib.Omega.{arith}
use Rattle.stitch_gather.proofs.gather.gather_row.Goals as goal

pub loop-k-init : goal.loop-k-init
loop-k-init c = search gathering_none

pub gather_triangle-found-requires : goal.gather_triangle-found-requires
gather_triangle-found-requires c = search row_triangle

pub loop-k-preserved : goal.loop-k-preserved
loop-k-preserved c = search gathering_more

pub returns : goal.returns
returns c = search gathering_all

pub returns-2 : goal.returns-2
returns-2 c =
    gathering_all c.requires (gathering_more c.requires c.loop-k.invariant c.loop-k-test.true c.gather_triangle-found.ensures (omega arith)) (omega arith)
