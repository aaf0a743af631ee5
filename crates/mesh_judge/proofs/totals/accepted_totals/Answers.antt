-- `accepted_totals` meets its contract. With k rows done, the totals and what is left make the whole. Assumes nothing.
use native.Mathlib.Omega.{arith}
use Rattle.mesh_judge.proofs.TotalLaws.{totalling_ready, totalling_more, totalling_all}
use Rattle.mesh_judge.proofs.totals.accepted_totals.Goals as goal

pub add_row-t-requires : goal.add_row-t-requires
add_row-t-requires c = totalling_ready c.requires c.loop-k.invariant (omega (arith, c.loop-k-test.true, c.row_count-m.ensures))

pub loop-k-preserved : goal.loop-k-preserved
loop-k-preserved c = totalling_more c.requires c.loop-k.invariant (omega (arith, c.loop-k-test.true, c.row_count-m.ensures)) c.add_row-t.ensures

pub returns : goal.returns
returns c = totalling_all c.requires c.loop-k.invariant (omega (arith, c.loop-k-test.false, c.row_count-m.ensures))
