-- `try_block` meets its contract. Assumes nothing.
use Rattle.stitch_triangle.proofs.SearchLaws.{trying_none, next_ready, point_ready, trying_more, trying_ruled, trying_all}
use native.Mathlib.Omega.{arith}
use Rattle.stitch_triangle.proofs.search.try_block.Goals.{then-may_split, else-may_split}
use Rattle.stitch_triangle.proofs.search.try_block.Goals as goal

pub loop-j-init : goal.loop-j-init
loop-j-init c = search trying_none

pub may_split-requires : goal.may_split-requires
may_split-requires c = search point_ready

pub try_vertex-t-requires : goal.try_vertex-t-requires
try_vertex-t-requires c = search next_ready

pub loop-j-preserved : goal.loop-j-preserved
loop-j-preserved c =
    elim c.if-may_split.branch [
      | then-may_split w ↦ rw (w.w-is, w.t-is) (trying_more c.requires c.args.s c.block_end-end.ensures c.loop-j.invariant c.loop-j-test.true w.try_vertex-t.ensures (omega arith))
      | else-may_split w ↦
          rw (w.w-is, w.t-is)
          (trying_ruled c.requires c.args.s c.block_end-end.ensures c.loop-j.invariant c.loop-j-test.true c.side_of-tried.ensures c.may_split.ensures w.if-may_split.false)
    ]

pub returns : goal.returns
returns c = search trying_all
