-- `point_cell::half_up` meets its contract. Assumes nothing.
use native.Mathlib.Omega.{arith}
use Rattle.point_cell.proofs.half_up.Goals as goal

pub returns : goal.returns
returns c = omega arith
