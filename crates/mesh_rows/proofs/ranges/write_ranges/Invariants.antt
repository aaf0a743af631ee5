-- `write_ranges` meets its contract. With k rows done, their ranges are written and those of the rest are left. Assumes nothing.
use Rattle.mesh_rows.proofs.RangeLaws.{Ranging}
use Rattle.mesh_rows.proofs.ranges.write_ranges.Given as goal

abbrev pub invariant-loop-k : goal.invariant-loop-k
invariant-loop-k l = Ranging l.rows l.w l.at l.starts l.initial.ranges l.r l.k l.ranges
