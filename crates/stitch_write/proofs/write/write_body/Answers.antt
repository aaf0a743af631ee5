-- `write_body` meets its contract. Assumes nothing.
use mathlib.Core.Path.{refl}
use Prim.Native.Nat.{◌-◌}
use native.Mathlib.Omega.{arith}
use Rattle.stitch_write.proofs.BodyWriteLaws.{writing_none, end_low, base_low, row_writable, row_room, vertices_small, indices_small, writing_more, writing_all}
use Rattle.stitch_write.proofs.write.write_body.Goals as goal

pub loop-k-init : goal.loop-k-init
loop-k-init c = search writing_none

pub overflow_add-end : goal.overflow_add-end
overflow_add-end c =
    let p = c.requires in
    let l = end_low p c.loop-k.invariant c.row_count-m.ensures refl c.loop-k-test.true refl refl in
    omega (arith, l, c.indices.ensures, p.body.all, p.body.few)

pub write_row-r-requires : goal.write_row-r-requires
write_row-r-requires c =
    row_writable c.requires c.loop-k.invariant c.row_count-m.ensures refl c.loop-k-test.true c.vertices-vertices.ensures (omega (arith, c.indices.ensures))

pub overflow_cast-more_vertices : goal.overflow_cast-more_vertices
overflow_cast-more_vertices c =
    let l = vertices_small c.requires c.loop-k.invariant c.row_count-m.ensures refl c.loop-k-test.true c.vertices-vertices.ensures (omega (arith, c.indices.ensures)) c.write_row-r.ensures in
    omega (arith, l)

pub overflow_cast-more_indices : goal.overflow_cast-more_indices
overflow_cast-more_indices c =
    let l = indices_small c.requires c.loop-k.invariant c.row_count-m.ensures refl c.loop-k-test.true c.vertices-vertices.ensures (omega (arith, c.indices.ensures)) c.write_row-r.ensures in
    omega (arith, l)

pub put_counts-requires : goal.put_counts-requires
put_counts-requires c =
    let l = row_room c.requires c.loop-k.invariant c.row_count-m.ensures refl c.loop-k-test.true refl refl in
    omega (arith, l)

pub overflow_add-base : goal.overflow_add-base
overflow_add-base c =
    let p = c.requires in
    let l = base_low p c.loop-k.invariant c.row_count-m.ensures refl c.loop-k-test.true refl refl in
    omega (arith, l, c.vertices-vertices.ensures, p.body.stands.few)

pub loop-k-preserved : goal.loop-k-preserved
loop-k-preserved c =
    writing_more c.requires c.loop-k.invariant c.row_count-m.ensures refl c.loop-k-test.true c.vertices-vertices.ensures (omega (arith, c.indices.ensures)) c.write_row-r.ensures refl refl refl refl refl refl c.put_counts.ensures
    (omega (arith, c.write_row-r.auto)) (omega (arith, c.put_counts.auto)) (omega (arith, c.write_row-r.auto)) (omega (arith, c.write_row-r.auto)) (omega (arith, c.write_row-r.auto))

pub returns : goal.returns
returns c = search writing_all
