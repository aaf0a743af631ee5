-- `write_failures` meets its contract. With k rows done, their failures are written and those of the rest are left. Assumes nothing.
use Rattle.mesh_acceptance.specs.RowStarts.{vertices_in, indices_in}
use mathlib.Core.Path.{refl}
use native.Mathlib.Omega.{arith}
use Rattle.mesh_failures.proofs.FailureLaws.{failing_none, failing_ready, failing_more, failing_all}
use Rattle.mesh_failures.proofs.failures.write_failures.Goals as goal

pub loop-k-init : goal.loop-k-init
loop-k-init c = failing_none

pub append_failure-j-requires : goal.append_failure-j-requires
append_failure-j-requires c = rw c.new-reference.ensures (failing_ready c.requires c.loop-k.invariant (omega (arith, c.loop-k-test.true, c.row_count-m.ensures)) refl)

pub overflow_add-base : goal.overflow_add-base
overflow_add-base c = omega (arith, c.requires.all_positions, c.vertices.ensures, vertices_in c.loop-k.invariant.here (omega (arith, c.loop-k-test.true, c.row_count-m.ensures)))

pub overflow_add-i : goal.overflow_add-i
overflow_add-i c = omega (arith, c.requires.all_indices_lem, c.indices.ensures, indices_in c.loop-k.invariant.here (omega (arith, c.loop-k-test.true, c.row_count-m.ensures)))

pub loop-k-preserved : goal.loop-k-preserved
loop-k-preserved c = failing_more c.requires c.loop-k.invariant (omega (arith, c.loop-k-test.true, c.row_count-m.ensures)) (rw c.new-reference.ensures at c.append_failure-j.ensures) c.vertices.ensures c.indices.ensures

pub returns : goal.returns
returns c = failing_all c.loop-k.invariant (omega (arith, c.loop-k-test.false, c.row_count-m.ensures))
