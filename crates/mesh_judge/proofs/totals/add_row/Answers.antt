-- `add_row` meets its contract. The two branches are the two cases of the definition. Assumes nothing.
use native.Mathlib.Omega.{arith}
use Rattle.mesh_judge.proofs.TotalLaws.{total_no, total_yes}
use Rattle.mesh_judge.proofs.totals.add_row.Goals as goal

pub returns-then-w-at-eq0 : goal.returns-then-w-at-eq0
returns-then-w-at-eq0 c = total_no _ _ _ (omega arith)

pub returns : goal.returns
returns c = total_yes _ _ _ c.if-w-at-eq0.false c.vertices.ensures c.indices.ensures
