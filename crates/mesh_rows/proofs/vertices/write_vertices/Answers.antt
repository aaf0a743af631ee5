-- `write_vertices` meets its contract. With k rows done, their numbers are written and those of the rest are left. Assumes nothing.
use native.Mathlib.Omega.{arith}
use Rattle.mesh_rows.proofs.VertexLaws.{inside, copying_none, copying_ready, copying_more, copying_all}
use Rattle.mesh_rows.proofs.vertices.write_vertices.Goals as goal

pub loop-k-init : goal.loop-k-init
loop-k-init c = copying_none

pub append_row-o-requires : goal.append_row-o-requires
append_row-o-requires c = copying_ready c.requires c.loop-k.invariant (omega (arith, c.loop-k-test.true, c.row_count-m.ensures)) c.vertices-vertices.ensures

pub overflow_add-base : goal.overflow_add-base
overflow_add-base c = omega (arith, inside c.requires c.loop-k.invariant (omega (arith, c.loop-k-test.true, c.row_count-m.ensures)) c.vertices-vertices.ensures)

pub loop-k-preserved : goal.loop-k-preserved
loop-k-preserved c = copying_more c.requires c.loop-k.invariant (omega (arith, c.loop-k-test.true, c.row_count-m.ensures)) c.vertices-vertices.ensures c.append_row-o.ensures

pub returns : goal.returns
returns c = copying_all c.requires c.loop-k.invariant (omega (arith, c.loop-k-test.false, c.row_count-m.ensures))
