-- `turn_neighbours::wanted` meets its contract, by its test. Assumes nothing.
use Rattle.turn_neighbours.proofs.Across.{run_index, want_not, want_yes}
use native.Mathlib.Omega.{arith}
use Rattle.turn_neighbours.proofs.wanted.Goals as goal

pub overflow_add-runs : goal.overflow_add-runs
overflow_add-runs c = omega (arith, run_index c.requires)

pub offset_bounds-w-runs : goal.offset_bounds-w-runs
offset_bounds-w-runs c = omega (arith, run_index c.requires)

pub bounds-w-runs : goal.bounds-w-runs
bounds-w-runs c = rw c.runs-runs.ensures (run_index c.requires)

pub returns-then-w-runs : goal.returns-then-w-runs
returns-then-w-runs c = want_not c.requires (rw c.runs-runs.ensures at c.if-w-runs.true) c.opposite_colour.ensures

pub returns : goal.returns
returns c = want_yes c.requires (rw c.runs-runs.ensures at c.if-w-runs.false)
