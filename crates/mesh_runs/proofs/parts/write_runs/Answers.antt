-- `write_runs` meets its contract. With the materials below a bound done, their runs and parts are written and those of the rest are left. Assumes nothing.
use mathlib.Core.Path.{refl}
use native.Mathlib.Omega.{arith}
use Rattle.mesh_runs.proofs.PartLaws.{order_ready, parts_ready, first_ready, parting_none, next_low, next_some, few, run_ready, part_room, run_end, place_more, parting_more, parting_all, runs_same}
use Rattle.mesh_runs.proofs.parts.write_runs.Goals as goal

pub order_rows-requires : goal.order_rows-requires
order_rows-requires c = order_ready c.requires c.row_count-m.ensures refl

pub first_accepted-q-requires : goal.first_accepted-q-requires
first_accepted-q-requires c = first_ready (parts_ready c.requires c.row_count-m.ensures refl c.order_rows.ensures)

pub loop-q-init : goal.loop-q-init
loop-q-init c = parting_none (parts_ready c.requires c.row_count-m.ensures refl c.order_rows.ensures) c.first_accepted-q.ensures

pub write_run-run-requires : goal.write_run-run-requires
write_run-run-requires c = run_ready c.loop-q.invariant c.loop-q-test.true refl

pub overflow_sub-d : goal.overflow_sub-d
overflow_sub-d c = omega (arith, next_some c.loop-q.invariant c.loop-q-test.true refl)

pub overflow_cast-d : goal.overflow_cast-d
overflow_cast-d c = omega (arith, next_low c.loop-q.invariant c.loop-q-test.true refl)

pub overflow_cast-o : goal.overflow_cast-o
overflow_cast-o c = omega (arith, few c.loop-q.invariant c.loop-q-test.true refl)

pub overflow_sub-run : goal.overflow_sub-run
overflow_sub-run c = omega (arith, run_end c.loop-q.invariant c.loop-q-test.true refl c.write_run-run.ensures)

pub overflow_cast-run : goal.overflow_cast-run
overflow_cast-run c = omega (arith, run_end c.loop-q.invariant c.loop-q-test.true refl c.write_run-run.ensures, few c.loop-q.invariant c.loop-q-test.true refl)

pub put_part-requires : goal.put_part-requires
put_part-requires c = part_room c.loop-q.invariant c.loop-q-test.true refl

pub overflow_add-p : goal.overflow_add-p
overflow_add-p c = omega (arith, part_room c.loop-q.invariant c.loop-q-test.true refl, c.loop-q.invariant.parts_long, c.well_formed.1.1.1.1.1.1.0.0)

pub loop-q-smaller : goal.loop-q-smaller
loop-q-smaller c = omega (arith, place_more c.loop-q.invariant c.loop-q-test.true refl c.write_run-run.ensures)

pub loop-q-preserved : goal.loop-q-preserved
loop-q-preserved c = parting_more c.loop-q.invariant c.loop-q-test.true refl c.write_run-run.ensures c.put_part.ensures refl refl refl

pub returns : goal.returns
returns c = runs_same c.requires c.row_count-m.ensures refl c.order_rows.ensures (parting_all c.loop-q.invariant c.loop-q-test.false)
