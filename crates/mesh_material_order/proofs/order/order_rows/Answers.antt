-- `order_rows` meets its contract. The words are kept, then sorted. Assumes nothing.
use Rattle.mesh_material_order.proofs.OrderLaws.{sort_ready, ordered_rows}
use borrow.Author.Rules.{rules}
use Rattle.mesh_material_order.proofs.order.order_rows.Goals as goal

pub sort_words-requires : goal.sort_words-requires
sort_words-requires c = search (sort_ready, rules)

pub returns : goal.returns
returns c = search (ordered_rows, rules)
