-- `write_failures` meets its contract. With k rows done, their failures are written and those of the rest are left. Assumes nothing.
use Rattle.mesh_failures.proofs.FailureLaws.{Failing}
use Rattle.mesh_failures.proofs.failures.write_failures.Given as goal

abbrev pub invariant-loop-k : goal.invariant-loop-k
invariant-loop-k l = Failing l.rows l.positions l.indices l.fn.reference l.initial.failures l.j l.base l.i l.k l.failures
