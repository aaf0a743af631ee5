-- `write_triangle` meets its contract. Assumes nothing.
use native.Mathlib.Omega.{arith}
use Rattle.stitch_write.proofs.TriangleWriteLaws.{kept_many, positions_ready, normals_ready, fan_ready, triangle_written}
use Rattle.stitch_write.proofs.write.write_triangle.Goals as goal

pub overflow_mul-before : goal.overflow_mul-before
overflow_mul-before c =
    omega (arith, c.requires.room_positions, c.well_formed.1.1.1.1.1.1.1.1.1.0)

pub append_positions-requires : goal.append_positions-requires
append_positions-requires c =
    let p = c.requires in
    positions_ready p c.find_splits-r.ensures (omega arith)

pub overflow_mul-before-2 : goal.overflow_mul-before-2
overflow_mul-before-2 c =
    omega (arith, c.requires.room_normals, c.well_formed.1.1.1.1.1.1.1.1.1.1.0)

pub append_normals-requires : goal.append_normals-requires
append_normals-requires c =
    let p = c.requires in
    normals_ready p c.find_splits-r.ensures (omega arith) c.corner-a.ensures c.corner-b.ensures c.corner-c.ensures

pub offset_bounds-indices-k : goal.offset_bounds-indices-k
offset_bounds-indices-k c =
    omega (arith, c.requires.ready.in_a.inside, c.well_formed.1.1.0)

pub bounds-indices-k : goal.bounds-indices-k
bounds-indices-k c =
    let p = c.requires in
    omega (arith, p.ready.in_a.inside)

pub overflow_add-k-3 : goal.overflow_add-k-3
overflow_add-k-3 c =
    omega (arith, c.requires.ready.in_b.inside, c.well_formed.1.1.0)

pub offset_bounds-indices-k-2 : goal.offset_bounds-indices-k-2
offset_bounds-indices-k-2 c =
    omega (arith, c.requires.ready.in_b.inside, c.well_formed.1.1.0)

pub bounds-indices-k-2 : goal.bounds-indices-k-2
bounds-indices-k-2 c =
    let p = c.requires in
    omega (arith, p.ready.in_b.inside)

pub overflow_add-k-4 : goal.overflow_add-k-4
overflow_add-k-4 c =
    omega (arith, c.requires.ready.in_c.inside, c.well_formed.1.1.0)

pub offset_bounds-indices-k-3 : goal.offset_bounds-indices-k-3
offset_bounds-indices-k-3 c =
    omega (arith, c.requires.ready.in_c.inside, c.well_formed.1.1.0)

pub bounds-indices-k-3 : goal.bounds-indices-k-3
bounds-indices-k-3 c =
    let p = c.requires in
    omega (arith, p.ready.in_c.inside)

pub append_fan-end-requires : goal.append_fan-end-requires
append_fan-end-requires c =
    let p = c.requires in
    fan_ready p c.find_splits-r.ensures (omega arith) _ _ _

pub overflow_add-result : goal.overflow_add-result
overflow_add-result c =
    let p = c.requires in
    let l = kept_many p c.find_splits-r.ensures (omega arith) in
    omega (arith, l, p.room_positions, c.well_formed.1.1.1.1.1.1.1.1.1.0)

pub shape_of-w : goal.shape_of-w
shape_of-w c = omega arith

pub shape_of-out_positions : goal.shape_of-out_positions
shape_of-out_positions c = omega arith

pub shape_of-out_normals : goal.shape_of-out_normals
shape_of-out_normals c = omega arith

pub shape_of-out_indices : goal.shape_of-out_indices
shape_of-out_indices c = omega arith

pub returns : goal.returns
returns c =
    let p = c.requires in
    triangle_written p c.find_splits-r.ensures (omega arith) c.corner-a.ensures c.corner-b.ensures c.corner-c.ensures c.append_positions.ensures c.append_normals.ensures c.append_fan-end.ensures
