-- `judge_rows` meets its contract. With k rows done, their decisions are written and those of the rest are left. Assumes nothing.
use Rattle.mesh_judge.proofs.JudgeLaws.{Judging}
use Rattle.mesh_judge.proofs.judge.judge_rows.Given as goal

abbrev pub invariant-loop-k : goal.invariant-loop-k
invariant-loop-k l = Judging l.rows l.positions l.indices l.fn.reference l.materials l.default l.initial.w l.base l.i l.k l.w
