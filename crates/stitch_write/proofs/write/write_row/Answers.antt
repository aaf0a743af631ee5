-- `write_row` meets its contract. With the triangles before k written, their vertices and indices stand behind the row's own. Assumes nothing.
use native.Mathlib.Omega.{arith}
use Rattle.stitch_write.proofs.RowWriteLaws.{own_positions, own_normals, positions_room, normals_room, long_p, long_n, writing_none, triangle_writable, writing_more, writing_all}
use Rattle.stitch_write.proofs.write.write_row.Goals as goal

pub put-requires : goal.put-requires
put-requires c = positions_room c.requires

pub put-requires-2 : goal.put-requires-2
put-requires-2 c = normals_room c.requires

pub loop-k-init : goal.loop-k-init
loop-k-init c =
    let p = c.requires in
    let a = c.put.ensures.appended in
    let b = c.put-2.ensures.appended in
    writing_none p a b

pub overflow_sub-next : goal.overflow_sub-next
overflow_sub-next c = omega (arith, c.loop-k.invariant.vertices_end)

pub write_triangle-ends-requires : goal.write_triangle-ends-requires
write_triangle-ends-requires c =
    let p = c.requires in
    let a = c.put.ensures.appended in
    let b = c.put-2.ensures.appended in
    triangle_writable p (long_p p a b) (long_n p a b) c.loop-k.invariant c.loop-k-test.true

pub loop-k-preserved : goal.loop-k-preserved
loop-k-preserved c =
    let p = c.requires in
    let a = c.put.ensures.appended in
    let b = c.put-2.ensures.appended in
    writing_more p (long_p p a b) (long_n p a b) c.loop-k.invariant c.loop-k-test.true c.write_triangle-ends.ensures (omega (arith, c.write_triangle-ends.auto))

pub returns : goal.returns
returns c =
    let p = c.requires in
    let a = c.put.ensures.appended in
    let b = c.put-2.ensures.appended in
    writing_all p a b c.loop-k.invariant c.loop-k-test.false

pub returns-2 : goal.returns-2
returns-2 c =
    let p = c.requires in
    let a = c.put.ensures.appended in
    let b = c.put-2.ensures.appended in
    writing_all p a b
    (writing_more p (long_p p a b) (long_n p a b) c.loop-k.invariant c.loop-k-test.true c.write_triangle-ends.ensures (omega (arith, c.write_triangle-ends.auto)))
    (omega arith)
