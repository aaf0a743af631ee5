-- `count_rows` meets its contract. With k rows counted, the counts and what the rest count make the whole. Assumes nothing.
use native.Mathlib.Omega.{arith}
use Rattle.mesh_acceptance.specs.RowStarts.{vertices_in, indices_in}
use Rattle.report_page.proofs.CountLaws.{counting_none, counting_ready, counting_more, counting_all}
use Rattle.report_page.proofs.counts.count_rows.Goals as goal

pub loop-k-init : goal.loop-k-init
loop-k-init c = search counting_none

pub count_row-counts-requires : goal.count_row-counts-requires
count_row-counts-requires c =
    counting_ready c.requires c.loop-k.invariant
    (omega (arith, c.loop-k-test.true, c.row_count-m.ensures))

pub overflow_add-base : goal.overflow_add-base
overflow_add-base c =
    omega (
      arith,
      c.requires.all_positions,
      c.vertices.ensures,
      vertices_in c.loop-k.invariant.here
          (omega (arith, c.loop-k-test.true, c.row_count-m.ensures)),
    )

pub overflow_add-i : goal.overflow_add-i
overflow_add-i c =
    omega (
      arith,
      c.requires.all_indices_lem,
      c.indices.ensures,
      indices_in c.loop-k.invariant.here
          (omega (arith, c.loop-k-test.true, c.row_count-m.ensures)),
    )

pub loop-k-preserved : goal.loop-k-preserved
loop-k-preserved c =
    counting_more c.requires c.loop-k.invariant
    (omega (arith, c.loop-k-test.true, c.row_count-m.ensures))
    (rw c.new-reference.ensures at c.count_row-counts.ensures) c.vertices.ensures c.indices.ensures

pub returns : goal.returns
returns c =
    counting_all c.requires c.loop-k.invariant
    (omega (arith, c.loop-k-test.false, c.row_count-m.ensures))
