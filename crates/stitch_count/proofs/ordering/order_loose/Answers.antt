-- `order_loose` meets its contract. Assumes nothing.
use Rattle.stitch_count.proofs.OrderLaws.{order_none, rank_ready, tree_ready, order_made}
use borrow.Author.Rules.{rules}
use Rattle.stitch_count.proofs.ordering.order_loose.Goals as goal

pub returns-then-count-eq0 : goal.returns-then-count-eq0
returns-then-count-eq0 c = search order_none

pub rank_vertices-requires : goal.rank_vertices-requires
rank_vertices-requires c = search rank_ready

pub make_tree-requires : goal.make_tree-requires
make_tree-requires c = search (rules, tree_ready)

pub returns : goal.returns
returns c = search (rules, order_made)
