-- `base_after` meets its contract. The two branches are the two cases of the definition. Assumes nothing.
use native.Mathlib.Omega.{arith}
use Rattle.mesh_material_order.proofs.OrderLaws.{after_no, after_yes}
use Rattle.mesh_material_order.proofs.order.base_after.Goals as goal

pub returns-then-d-eq0 : goal.returns-then-d-eq0
returns-then-d-eq0 c = after_no _ _ _ (omega arith)

pub returns : goal.returns
returns c = after_yes _ _ _ c.if-d-eq0.false
