-- `write_ranges` meets its contract. With k rows done, their ranges are written and those of the rest are left. Assumes nothing.
use native.Mathlib.Omega.{arith}
use Rattle.mesh_rows.proofs.RangeLaws.{ranging_more, ranging_all}
use Rattle.mesh_rows.proofs.ranges.write_ranges.Goals as goal

pub loop-k-preserved : goal.loop-k-preserved
loop-k-preserved c = ranging_more c.requires c.loop-k.invariant (omega (arith, c.loop-k-test.true, c.row_count-m.ensures)) c.append_range-r.ensures

pub returns : goal.returns
returns c = ranging_all c.requires c.loop-k.invariant (omega (arith, c.loop-k-test.false, c.row_count-m.ensures))
