-- `keep_rows` meets its contract. With the words of k rows kept, the vertices and indices before row k are known. Assumes nothing.
use mathlib.Core.Path.{refl}
use native.Mathlib.Omega.{arith}
use lib.ListN.{length-set}
use Rattle.mesh_material_order.proofs.OrderLaws.{keeping_none, decision_low, base_low, index_low, row_few, keeping_more, keeping_all}
use borrow.Author.Rules.{rules}
use Rattle.mesh_material_order.proofs.order.keep_rows.Goals as goal

pub loop-k-init : goal.loop-k-init
loop-k-init c = search (keeping_none, rules)

pub overflow_mul-w : goal.overflow_mul-w
overflow_mul-w c = omega (arith, base_low c.requires c.loop-k.invariant c.loop-k-test.true, index_low c.requires c.loop-k.invariant c.loop-k-test.true)

pub overflow_add-w : goal.overflow_add-w
overflow_add-w c = omega (arith, base_low c.requires c.loop-k.invariant c.loop-k-test.true, index_low c.requires c.loop-k.invariant c.loop-k-test.true)

pub order_word-requires : goal.order_word-requires
order_word-requires c = record { decision = decision_low c.requires c.loop-k.invariant c.loop-k-test.true; row = row_few c.requires c.loop-k.invariant c.loop-k-test.true }

pub bounds-w-order : goal.bounds-w-order
bounds-w-order c = simp length-set (omega arith)

pub base_after-base-requires : goal.base_after-base-requires
base_after-base-requires c = record { small = omega (arith, base_low c.requires c.loop-k.invariant c.loop-k-test.true, c.vertices.ensures) }

pub overflow_add-i : goal.overflow_add-i
overflow_add-i c = omega (arith, index_low c.requires c.loop-k.invariant c.loop-k-test.true, c.indices.ensures)

pub loop-k-preserved : goal.loop-k-preserved
loop-k-preserved c = keeping_more c.requires c.loop-k.invariant c.loop-k-test.true refl c.vertices.ensures c.indices.ensures c.base_after-base.ensures refl c.order_word.ensures refl

pub returns : goal.returns
returns c = keeping_all c.requires c.loop-k.invariant c.loop-k-test.false
