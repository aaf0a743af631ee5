-- `reverse_rows` meets its contract: after row k the rows before it are as their colours say. Assumes nothing.
use mathlib.Core.Path.{refl}
use native.Mathlib.Omega.{arith}
use Rattle.turn_reversal.proofs.ReverseRows.{reversing_none, reversing_more, reversing_all, row_whole, normals_end, indices_end}
use Rattle.turn_reversal.proofs.reverse.reverse_rows.Goals as goal

pub loop-k-init : goal.loop-k-init
loop-k-init c = reversing_none _ _ _ _ _

pub overflow_add-vend : goal.overflow_add-vend
overflow_add-vend c =
    let p = c.requires in
    omega (arith, normals_end p c.loop-k.invariant (omega (arith, c.loop-k-test.true, c.row_count-n.ensures)), c.vertices.ensures)

pub overflow_add-iend : goal.overflow_add-iend
overflow_add-iend c =
    let p = c.requires in
    omega (arith, indices_end p c.loop-k.invariant (omega (arith, c.loop-k-test.true, c.row_count-n.ensures)), c.indices.ensures)

pub slice_bounds-reverse_row-end : goal.slice_bounds-reverse_row-end
slice_bounds-reverse_row-end c =
    let p = c.requires in
    omega (arith, normals_end p c.loop-k.invariant (omega (arith, c.loop-k-test.true, c.row_count-n.ensures)), c.loop-k.invariant.long_normals, c.vertices.ensures)

pub slice_bounds-reverse_row-end-in-loop-k : goal.slice_bounds-reverse_row-end-in-loop-k
slice_bounds-reverse_row-end-in-loop-k c =
    let p = c.requires in
    omega (arith, indices_end p c.loop-k.invariant (omega (arith, c.loop-k-test.true, c.row_count-n.ensures)), c.loop-k.invariant.long_indices, c.indices.ensures)

pub reverse_row-turned-requires : goal.reverse_row-turned-requires
reverse_row-turned-requires c =
    let p = c.requires in
    row_whole p c.loop-k.invariant (omega (arith, c.loop-k-test.true, c.row_count-n.ensures)) (omega (arith, c.indices.ensures))

pub overflow_add-turned : goal.overflow_add-turned
overflow_add-turned c =
    let p = c.requires in
    let n = reversing_more p c.loop-k.invariant (omega (arith, c.loop-k-test.true, c.row_count-n.ensures)) (omega (arith, c.vertices.ensures)) (omega (arith, c.indices.ensures)) refl c.reverse_row-turned.ensures in
    omega (arith, n.few, n.low, p.rows.few)

pub loop-k-preserved : goal.loop-k-preserved
loop-k-preserved c =
    let p = c.requires in
    reversing_more p c.loop-k.invariant (omega (arith, c.loop-k-test.true, c.row_count-n.ensures)) (omega (arith, c.vertices.ensures)) (omega (arith, c.indices.ensures)) refl c.reverse_row-turned.ensures

pub returns : goal.returns
returns c = reversing_all c.requires c.loop-k.invariant (omega (arith, c.loop-k-test.false, c.row_count-n.ensures))
