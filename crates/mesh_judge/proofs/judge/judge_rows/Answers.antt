-- `judge_rows` meets its contract. With k rows done, their decisions are written and those of the rest are left. Assumes nothing.
use native.Mathlib.Omega.{arith}
use Rattle.mesh_acceptance.specs.RowStarts.{vertices_in, indices_in}
use Rattle.mesh_judge.proofs.JudgeLaws.{judging_none, judging_ready, judging_more, judging_all}
use Rattle.mesh_judge.proofs.judge.judge_rows.Goals as goal

pub loop-k-init : goal.loop-k-init
loop-k-init c = judging_none

pub decision-requires : goal.decision-requires
decision-requires c = judging_ready c.requires c.loop-k.invariant (omega (arith, c.loop-k-test.true, c.row_count-m.ensures))

pub overflow_add-base : goal.overflow_add-base
overflow_add-base c = omega (arith, c.requires.all_positions, c.vertices.ensures, vertices_in c.loop-k.invariant.here (omega (arith, c.loop-k-test.true, c.row_count-m.ensures)))

pub overflow_add-i : goal.overflow_add-i
overflow_add-i c = omega (arith, c.requires.all_indices_lem, c.indices.ensures, indices_in c.loop-k.invariant.here (omega (arith, c.loop-k-test.true, c.row_count-m.ensures)))

pub loop-k-preserved : goal.loop-k-preserved
loop-k-preserved c = judging_more c.loop-k.invariant (omega (arith, c.loop-k-test.true, c.row_count-m.ensures)) (rw c.new-reference.ensures at c.decision.ensures) c.vertices.ensures c.indices.ensures

pub returns : goal.returns
returns c = judging_all c.loop-k.invariant (omega (arith, c.loop-k-test.false, c.row_count-m.ensures))
