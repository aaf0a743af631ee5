-- `row_volume` meets its contract. Assumes nothing.
use native.Mathlib.Omega.{arith}
use Rattle.turn_inversion.specs.RowPatch.{v_room, i_room}
use Rattle.turn_inversion.proofs.VolumeLaws.{row_within, row_volume_is}
use Rattle.turn_inversion.proofs.volume.row_volume.Goals as goal

pub overflow_mul-v : goal.overflow_mul-v
overflow_mul-v c = omega (arith, rw (← c.vertex_bases.ensures) at (v_room c.requires))

pub overflow_add-vend : goal.overflow_add-vend
overflow_add-vend c = omega (arith, rw (← c.vertex_bases.ensures) at (v_room c.requires), c.vertices.ensures)

pub overflow_add-iend : goal.overflow_add-iend
overflow_add-iend c = omega (arith, rw (← c.index_bases.ensures) at (i_room c.requires), c.indices.ensures)

pub offset_bounds-positions-v : goal.offset_bounds-positions-v
offset_bounds-positions-v c = omega (arith, rw (← c.vertex_bases.ensures) at (v_room c.requires), c.vertices.ensures)

pub slice_bounds-patch_volume-end : goal.slice_bounds-patch_volume-end
slice_bounds-patch_volume-end c = omega (arith, rw (← c.vertex_bases.ensures) at (v_room c.requires), c.vertices.ensures)

pub offset_bounds-indices-i : goal.offset_bounds-indices-i
offset_bounds-indices-i c = omega (arith, rw (← c.index_bases.ensures) at (i_room c.requires), c.indices.ensures)

pub slice_bounds-patch_volume-end-2 : goal.slice_bounds-patch_volume-end-2
slice_bounds-patch_volume-end-2 c = omega (arith, rw (← c.index_bases.ensures) at (i_room c.requires), c.indices.ensures)

pub patch_volume-requires : goal.patch_volume-requires
patch_volume-requires c =
    rw (← c.vertex_bases.ensures, ← c.index_bases.ensures) at (row_within c.requires c.vertices.ensures c.indices.ensures)

pub returns : goal.returns
returns c =
    row_volume_is c.requires c.vertices.ensures c.indices.ensures _ (rw (c.vertex_bases.ensures, c.index_bases.ensures) at c.patch_volume.ensures)
