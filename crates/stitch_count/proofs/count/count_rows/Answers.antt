-- `count_rows` meets its contract. Assumes nothing.
use mathlib.Core.Path.{refl}
use Prim.Native.Nat.{◌-◌}
use native.Mathlib.Omega.{arith}
use Rattle.stitch_count.proofs.BodyCountLaws.{rows_none, end_low, base_low, row_ready, rows_more, rows_all}
use Rattle.stitch_count.proofs.count.count_rows.Goals as goal

pub loop-k-init : goal.loop-k-init
loop-k-init c = search rows_none

pub overflow_add-end : goal.overflow_add-end
overflow_add-end c =
    let p = c.requires in
    let l = end_low p c.loop-k.invariant c.row_count-m.ensures refl c.loop-k-test.true refl refl in
    omega (arith, l, c.indices.ensures, p.all, p.few)

pub count_row-t-requires : goal.count_row-t-requires
count_row-t-requires c =
    row_ready c.requires c.loop-k.invariant c.row_count-m.ensures refl c.loop-k-test.true c.vertices-vertices.ensures (omega (arith, c.indices.ensures))

pub overflow_add-base : goal.overflow_add-base
overflow_add-base c =
    let p = c.requires in
    let l = base_low p c.loop-k.invariant c.row_count-m.ensures refl c.loop-k-test.true refl refl in
    omega (arith, l, c.vertices-vertices.ensures, p.stands.few)

pub loop-k-preserved : goal.loop-k-preserved
loop-k-preserved c =
    rows_more c.requires c.loop-k.invariant c.row_count-m.ensures refl c.loop-k-test.true c.vertices-vertices.ensures (omega (arith, c.indices.ensures)) c.count_row-t.ensures (omega arith)

pub returns : goal.returns
returns c = search rows_all
