-- `rank_vertices` meets its contract. Assumes nothing.
use Prim.Native.Nat.{◌-◌}
use Rattle.stitch_count.proofs.OrderLaws.{ranking_none, vertex_inside, word_fits, word_inside, ranking_more, ranking_all}
use Rattle.stitch_count.proofs.ordering.rank_vertices.Goals as goal

pub loop-j-init : goal.loop-j-init
loop-j-init c = search ranking_none

pub bounds-w-list : goal.bounds-w-list
bounds-w-list c = search vertex_inside

pub overflow_add-w-in-loop-j : goal.overflow_add-w-in-loop-j
overflow_add-w-in-loop-j c = search word_fits

pub bounds-w-order : goal.bounds-w-order
bounds-w-order c = search word_inside

pub loop-j-preserved : goal.loop-j-preserved
loop-j-preserved c = search ranking_more

pub returns : goal.returns
returns c = search ranking_all
