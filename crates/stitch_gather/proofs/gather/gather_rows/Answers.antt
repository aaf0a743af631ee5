-- `gather_rows` meets its contract. Assumes nothing.
use Prim.Native.Nat.{◌-◌}
use mathlib.Core.Path.{refl}
use native.Mathlib.Omega.{arith}
use Rattle.stitch_gather.proofs.GatherLaws.{end_low, base_low, rows_none, rows_more, rows_all, row_gatherable}
use Rattle.stitch_gather.proofs.gather.gather_rows.Goals as goal

pub loop-k-init : goal.loop-k-init
loop-k-init c = search rows_none

pub overflow_add-end : goal.overflow_add-end
overflow_add-end c =
    let l = end_low c.requires c.loop-k.invariant c.row_count-m.ensures c.loop-k-test.true refl refl in
    let p = c.requires in
    omega (arith, l, c.indices.ensures, p.all, p.few)

pub gather_row-found-requires : goal.gather_row-found-requires
gather_row-found-requires c =
    row_gatherable c.requires c.loop-k.invariant c.row_count-m.ensures c.loop-k-test.true c.vertices-vertices.ensures (omega (arith, c.indices.ensures))

pub overflow_add-base : goal.overflow_add-base
overflow_add-base c =
    let l = base_low c.requires c.loop-k.invariant c.row_count-m.ensures c.loop-k-test.true refl refl in
    omega (arith, l, c.vertices-vertices.ensures, c.requires.few_vertices)

pub loop-k-preserved : goal.loop-k-preserved
loop-k-preserved c =
    rows_more c.requires c.loop-k.invariant c.row_count-m.ensures c.loop-k-test.true c.vertices-vertices.ensures (omega (arith, c.indices.ensures)) c.gather_row-found.ensures (omega arith)

pub returns : goal.returns
returns c = search rows_all
